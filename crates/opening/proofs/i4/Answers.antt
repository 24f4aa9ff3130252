use Rattle.std.proofs.Common.{rules}
use Rattle.rules.specs.declared.Site.{Site}
use Rattle.opening.proofs.ByParts.{told_at}
use Rattle.opening.proofs.i4.Goals as goal

pub returns : goal.returns
returns c = told_at _ _ 4 Site.Certificate _ c.i4.ensures c.map.ensures.cases (λ i site p. search rules) c.broken.ensures
