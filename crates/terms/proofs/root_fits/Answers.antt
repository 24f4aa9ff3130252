use mathlib.Core.Path.{refl}
use Rattle.rules.specs.{ImageRules.root_fits, Words.◌implies◌}
use Rattle.terms.proofs.root_fits.Goals as goal

pub returns : goal.returns
unfolding root_fits ◌implies◌
returns c = refl
