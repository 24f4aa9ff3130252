use mathlib.Core.Path.{◌∙◌}
use Rattle.records.proofs.FramedWrites.{executable_written}
use Rattle.records.proofs.image.write_executable.Goals as goal

pub returns : goal.returns
returns c = c.write.ensures ∙ search executable_written
