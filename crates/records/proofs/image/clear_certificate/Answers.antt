use mathlib.Core.Path.{◌∙◌}
use Rattle.records.proofs.FramedWrites.{certificate_cleared}
use Rattle.records.proofs.image.clear_certificate.Goals as goal

pub returns : goal.returns
returns c = c.clear.ensures ∙ search certificate_cleared
