use mathlib.Core.Path.{refl}
use Rattle.rules.specs.ImageRules.{row_fits}
use Rattle.terms.proofs.row_fits.Goals as goal

pub returns : goal.returns
unfolding row_fits
returns c = refl
