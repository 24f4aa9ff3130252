use Rattle.std.proofs.Common.{rules}
use Rattle.records.specs.Phone.{no_certificate}
use Rattle.sweep.proofs.FirstFound.{some_found}
use Rattle.reasons.proofs.slots.is_held.Goals as goal

pub returns : goal.returns
returns c = some_found _ _ no_certificate _ c.certificate_slots.ensures.0 _ c.first.ensures c.is_some.ensures (λ i b h p. search rules)
