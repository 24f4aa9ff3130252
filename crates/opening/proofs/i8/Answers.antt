use Rattle.std.proofs.Common.{rules}
use Rattle.rules.specs.declared.Site.{Site}
use Rattle.opening.proofs.ByParts.{told_at}
use Rattle.opening.proofs.i8.Goals as goal

pub returns : goal.returns
returns c = told_at _ _ 8 Site.Executable _ c.first_unchained.ensures c.map.ensures.cases (λ i site p. search rules) c.broken.ensures
