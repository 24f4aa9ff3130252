use mathlib.Core.Path.{◌∙◌}
use Rattle.records.proofs.FramedWrites.{domain_written}
use Rattle.records.proofs.image.set_domain.Goals as goal

pub returns : goal.returns
returns c = c.write.ensures ∙ search domain_written
