use mathlib.Core.Path.{◌∙◌}
use Rattle.rules.specs.Codes.{has_id}
use Rattle.lookup.proofs.FoundSlot.{told}
use Rattle.lookup.proofs.is_taken.Goals as goal

pub returns : goal.returns
returns c = c.is_some.ensures ∙ told (has_id _) _ c.certificate_slot.ensures
