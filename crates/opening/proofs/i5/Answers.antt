use Rattle.std.proofs.Common.{rules}
use Rattle.rules.specs.declared.Site.{Site}
use Rattle.opening.proofs.ByParts.{told_at}
use Rattle.opening.proofs.i5.Goals as goal

pub returns : goal.returns
returns c = told_at _ _ 5 Site.Certificate _ c.i5.ensures c.map.ensures.cases (λ i site p. search rules) c.broken.ensures
