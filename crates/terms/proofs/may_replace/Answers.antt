use mathlib.Core.Path.{refl}
use Rattle.rules.specs.Codes.{may_replace}
use Rattle.terms.proofs.may_replace.Goals as goal

pub returns : goal.returns
unfolding may_replace
returns c = refl
