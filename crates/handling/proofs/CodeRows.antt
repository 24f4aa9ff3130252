-- The number of the first row that holds, taken row by row. Assumes nothing.
use Prim.Native.Nat.{ℕ, ◌≤◌, ◌<◌}
use mathlib.Core.{Bool.{Bool, true, false, cond, not}, List.{List, [], ◌∷◌}, Path.{◌≡◌, refl, sym, ap, ◌∙◌}}
use native.Mathlib.Omega.{arith}
use borrow.Author.Tests.{lt-ltb, le-ltb}
use lib.Dec.{ltb}
use Rattle.rules.specs.Words.{Check, ◌⇒◌, first}

-- the rows give r
pub data Gives : ℕ → List Check → Type 0 where
  none : Gives 0 []
  here : {b : Bool} {n : ℕ} {l : List Check} → b ≡ true → Gives n ((b ⇒ n) ∷ l)
  next : {b : Bool} {n r : ℕ} {l : List Check} → b ≡ false → Gives r l → Gives r ((b ⇒ n) ∷ l)
  rest : {r : ℕ} {l : List Check} → r ≡ first l → Gives r l

pub gives : {r : ℕ} {l : List Check} → Gives r l → r ≡ first l
unfolding first
gives none = refl
gives (here {b} {n} {l} h) = ap (λ x. cond x n (first l)) (sym h)
gives (next {b} {n} {r} {l} h g) = gives g ∙ ap (λ x. cond x n (first l)) (sym h)
gives (rest q) = q

-- what is told of an answer is told of what it answers
pub says : {x y v : Bool} → x ≡ y → not x ≡ v → not y ≡ v
says q h = ap not (sym q) ∙ h

pub says_below : {a b n : ℕ} → b ≡ n → a < b → ltb a n ≡ true
says_below {a} {b} {n} q h = lt-ltb a n (omega arith)

pub says_not_below : {a b n : ℕ} → b ≡ n → b ≤ a → ltb a n ≡ false
says_not_below {a} {b} {n} q h = le-ltb a n (omega arith)
