use Rattle.std.proofs.Common.{rules}
use Rattle.records.specs.Phone.{no_executable}
use Rattle.sweep.proofs.FirstFound.{first_found}
use Rattle.lookup.proofs.executable_slot.Goals as goal

pub returns : goal.returns
returns c = first_found _ _ no_executable _ c.executable_slots.ensures.0 c.first.ensures (λ i b h p. search rules)
