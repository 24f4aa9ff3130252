use mathlib.Core.{Bool.{Bool, true, false, not, ◌&&◌, ◌||◌}, Path.{◌≡◌, refl}}
use borrow.Author.Tests.{eq-eqb, ne_eqb}
use lib.Dec.{eqb}
use Rattle.rules.specs.{ImageRules.key_of_one_domain, Words.◌implies◌}
use Rattle.terms.proofs.key_of_one_domain.Goals as goal

-- other keys are in whatever domains
others : (a d : Bool) → true ≡ (not (a && false) || d)
others true d = refl
others false d = refl

-- and one key in one, where it is a key
one : (z d : Bool) → (z || d) ≡ (not (not z && true) || d)
one true d = refl
one false d = refl

pub returns-then-c-e : goal.returns-then-c-e
unfolding key_of_one_domain ◌implies◌
returns-then-c-e c =
    let a = c.args in
    rw (ne_eqb a.c.key a.e.key c.if-c-e.true) (others (not (eqb a.c.key 0)) (eqb a.c.domain a.e.domain))

pub returns : goal.returns
unfolding key_of_one_domain ◌implies◌
returns c =
    let a = c.args in
    rw (eq-eqb a.c.key a.e.key c.if-c-e.false) (one (eqb a.c.key 0) (eqb a.c.domain a.e.domain))
