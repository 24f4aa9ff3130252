use mathlib.Core.Path.{◌∙◌}
use Rattle.records.proofs.Said.{row_said}
use Rattle.records.proofs.image.row.Goals as goal

pub returns : goal.returns
returns c = c.read.ensures ∙ search row_said
