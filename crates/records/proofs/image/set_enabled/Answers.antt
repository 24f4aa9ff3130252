use mathlib.Core.Path.{◌∙◌}
use Rattle.records.proofs.FramedWrites.{enabled_written}
use Rattle.records.proofs.image.set_enabled.Goals as goal

pub returns : goal.returns
returns c = c.write.ensures ∙ search enabled_written
