use mathlib.Core.Path.{◌∙◌}
use Rattle.records.proofs.FramedWrites.{permissions_written}
use Rattle.records.proofs.image.set_permissions.Goals as goal

pub returns : goal.returns
returns c = c.write.ensures ∙ search permissions_written
