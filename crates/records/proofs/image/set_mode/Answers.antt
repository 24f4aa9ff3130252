use mathlib.Core.Path.{◌∙◌}
use Rattle.records.proofs.FramedWrites.{mode_written}
use Rattle.records.proofs.image.set_mode.Goals as goal

pub returns : goal.returns
returns c = c.write.ensures ∙ search mode_written
