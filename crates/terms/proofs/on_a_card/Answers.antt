use mathlib.Core.{Bool.{false, not, ◌&&◌, and-true, and-false}, Logic.◌≢◌, Path.◌≡◌}
use borrow.Author.Tests.{eq-eqb, ne_eqb}
use lib.Dec.{eqb}
use Rattle.records.specs.declared.Certificate.{Certificate}
use Rattle.rules.specs.Effects.{on_a_card}
use Rattle.terms.proofs.on_a_card.Goals as goal

of_another : (c : Certificate) → c.domain ≢ 1 → false ≡ on_a_card c
unfolding on_a_card
of_another c d = simp (ne_eqb c.domain 1 d, and-false)

of_an_operator : (c : Certificate) → c.domain ≡ 1 → (eqb c.kind 0 && not (eqb c.place 0)) ≡ on_a_card c
unfolding on_a_card
of_an_operator c d = simp (eq-eqb c.domain 1 d, and-true)

pub returns-then-c-ne-OPERATOR : goal.returns-then-c-ne-OPERATOR
returns-then-c-ne-OPERATOR c = of_another _ c.if-c-ne-OPERATOR.true

pub returns : goal.returns
returns c = of_an_operator _ c.if-c-ne-OPERATOR.false
