use mathlib.Core.{Bool.and-true, Path.{◌∙◌}}
use Rattle.rules.specs.{ImageRules.zero_certificate, Words.all}
use Rattle.terms.proofs.Listed.{all_zero_is}
use Rattle.terms.proofs.zero_certificate.Goals as goal

pub returns : goal.returns
unfolding zero_certificate all
returns c = c.eq.ensures ∙ (simp and-true) ∙ all_zero_is _
