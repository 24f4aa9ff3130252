use mathlib.Core.Path.{◌∙◌}
use Rattle.records.proofs.Said.{card_said}
use Rattle.records.proofs.image.card.Goals as goal

pub returns : goal.returns
returns c = c.read.ensures ∙ search card_said
