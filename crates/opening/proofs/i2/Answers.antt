use Rattle.std.proofs.Common.{rules}
use Rattle.rules.specs.{declared.Site.Site, ImageRules.i2}
use Rattle.opening.proofs.ByParts.{told_at}
use Rattle.opening.proofs.i2.Goals as goal

pub returns : goal.returns
unfolding i2
returns c = told_at _ _ 2 Site.Certificate _ c.slots_fit.ensures c.map.ensures.cases (λ i site p. search rules) c.broken.ensures
