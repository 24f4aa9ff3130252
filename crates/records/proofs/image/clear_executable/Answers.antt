use mathlib.Core.Path.{◌∙◌}
use Rattle.records.proofs.FramedWrites.{executable_cleared}
use Rattle.records.proofs.image.clear_executable.Goals as goal

pub returns : goal.returns
returns c = c.clear.ensures ∙ search executable_cleared
