use Rattle.std.proofs.Common.{rules}
use Rattle.records.specs.Phone.{no_certificate}
use Rattle.sweep.proofs.FirstFound.{first_found}
use Rattle.lookup.proofs.certificate_slot.Goals as goal

pub returns : goal.returns
returns c = first_found _ _ no_certificate _ c.certificate_slots.ensures.0 c.first.ensures (λ i b h p. search rules)
