use mathlib.Core.Path.{◌∙◌}
use Rattle.records.proofs.Said.{table_byte_said}
use Rattle.records.proofs.image.table_byte.Goals as goal

pub returns : goal.returns
returns c = c.read.ensures ∙ search table_byte_said
