use mathlib.Core.Path.{◌∙◌}
use Rattle.records.proofs.Said.{executable_said}
use Rattle.records.proofs.image.executable.Goals as goal

pub returns : goal.returns
returns c = c.read.ensures ∙ search executable_said
