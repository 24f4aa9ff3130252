use mathlib.Core.{Bool.{not, ◌&&◌, ◌||◌}, Path.ap}
use lib.Dec.{eqb}
use Rattle.rules.specs.{Words.between, Actors.acts_for}
use Rattle.terms.proofs.actors.acts_for.Goals as goal

pub returns : goal.returns
unfolding acts_for
returns c =
    let a = c.args in
    ap (λ b. not (between 6 8 a.kind && b) || eqb a.e.owner a.c.owner) c.is_somebody.ensures
