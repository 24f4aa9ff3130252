use mathlib.Core.Path.{refl}
use Rattle.rules.specs.ImageRules.{certificate_ranges}
use Rattle.terms.proofs.certificate_ranges.Goals as goal

pub returns : goal.returns
unfolding certificate_ranges
returns c = refl
