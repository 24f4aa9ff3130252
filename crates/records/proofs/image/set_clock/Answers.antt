use mathlib.Core.Path.{◌∙◌}
use Rattle.records.proofs.FramedWrites.{clock_written}
use Rattle.records.proofs.image.set_clock.Goals as goal

pub returns : goal.returns
returns c = c.write.ensures ∙ search clock_written
