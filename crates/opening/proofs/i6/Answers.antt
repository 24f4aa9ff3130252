use Rattle.std.proofs.Common.{rules}
use Rattle.rules.specs.{declared.Site.Site, ImageRules.i6}
use Rattle.opening.proofs.ByParts.{told_at}
use Rattle.opening.proofs.i6.Goals as goal

pub returns : goal.returns
unfolding i6
returns c = told_at _ _ 6 Site.Row _ c.rows_fit.ensures c.map.ensures.cases (λ i site p. search rules) c.broken.ensures
