use mathlib.Core.Path.{refl}
use Rattle.rules.specs.ImageRules.{issued_fits}
use Rattle.terms.proofs.issued_fits.Goals as goal

pub returns : goal.returns
unfolding issued_fits
returns c = refl
