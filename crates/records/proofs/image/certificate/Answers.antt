use mathlib.Core.Path.{◌∙◌}
use Rattle.records.proofs.Said.{certificate_said}
use Rattle.records.proofs.image.certificate.Goals as goal

pub returns : goal.returns
returns c = c.read.ensures ∙ search certificate_said
