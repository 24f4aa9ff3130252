use mathlib.Core.{Bool.{Bool, true, false, ◌&&◌}, Path.{◌≡◌, sym, ap, ◌∙◌}}
use Rattle.lookup.proofs.valid_operator.Goals as goal

-- a record that is not valid in the domain, and one that is
no_valid : (a b : Bool) → a ≡ false → false ≡ (a && b)
no_valid a b h = ap (λ x. x && b) (sym h)

a_valid : (a b : Bool) → a ≡ true → b ≡ (a && b)
a_valid a b h = ap (λ x. x && b) (sym h)

pub returns-then-not-valid_in : goal.returns-then-not-valid_in
returns-then-not-valid_in c = no_valid _ _ (sym c.valid_in.ensures ∙ c.if-not-valid_in.true)

pub returns : goal.returns
returns c = a_valid _ _ (sym c.valid_in.ensures ∙ c.if-not-valid_in.false)
