use mathlib.Core.Path.{◌∙◌}
use Rattle.records.proofs.FramedWrites.{mark_written}
use Rattle.records.proofs.image.set_mark.Goals as goal

pub returns : goal.returns
returns c = c.write.ensures ∙ search mark_written
