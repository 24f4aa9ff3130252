use native.Mathlib.Omega.{arith}
use mathlib.Core.Path.{sym, ap, ◌∙◌}
use Rattle.chain.specs.SlotWords.{good_slots}
use Rattle.chain.proofs.good_in.Goals as goal

pub returns-then-domain-eq-OPERATOR : goal.returns-then-domain-eq-OPERATOR
returns-then-domain-eq-OPERATOR c = λ t w. w.operator ∙ ap (good_slots t) (sym c.if-domain-eq-OPERATOR.true)

pub returns-then-domain-eq-MANUFACTURER : goal.returns-then-domain-eq-MANUFACTURER
returns-then-domain-eq-MANUFACTURER c = λ t w. w.manufacturer ∙ ap (good_slots t) (sym c.if-domain-eq-MANUFACTURER.true)

pub returns : goal.returns
returns c = λ t w. w.third ∙ ap (good_slots t) (omega arith)
