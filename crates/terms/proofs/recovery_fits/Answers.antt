use mathlib.Core.Path.{refl}
use Rattle.rules.specs.ImageRules.{recovery_fits}
use Rattle.terms.proofs.recovery_fits.Goals as goal

pub returns : goal.returns
unfolding recovery_fits
returns c = refl
