use mathlib.Core.Path.{◌∙◌}
use Rattle.records.proofs.FramedWrites.{certificate_written}
use Rattle.records.proofs.image.write_certificate.Goals as goal

pub returns : goal.returns
returns c = c.write.ensures ∙ search certificate_written
