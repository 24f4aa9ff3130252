-- The few words that the rules are written with. Definitions only.
use Rattle.std.specs.Prelude.{ℕ, zero, suc, ◌+◌}
use mathlib.Core.{Bool.{Bool, true, false, cond, not, ◌&&◌, ◌||◌}, List.{List, [], ◌∷◌, map}}
use Rattle.std.specs.Prelude.{leb, eqb}

-- lo ≤ n ≤ hi
abbrev pub between : ℕ → ℕ → ℕ → Bool
between lo hi n = leb lo n && leb n hi

-- if the first holds, then so does the second
infixr 25 ◌implies◌
unfoldable pub ◌implies◌ : Bool → Bool → Bool
a implies b = not a || b

-- some element passes the test
unfoldable pub any : {A : Type 0} → (A → Bool) → List A → Bool
any f [] = false
any f (x ∷ l) = f x || any f l

-- every element passes the test
unfoldable pub all : {A : Type 0} → (A → Bool) → List A → Bool
all f [] = true
all f (x ∷ l) = f x && all f l

-- any two elements, each with itself too, pass the test
abbrev pub all_pairs : {A : Type 0} → (A → A → Bool) → List A → Bool
all_pairs r l = all (λ x. all (r x) l) l

-- no number but 0 stands twice
unfoldable pub distinct : List ℕ → Bool
distinct [] = true
distinct (n ∷ l) = (eqb n 0 || not (any (eqb n) l)) && distinct l

-- every number is 0
unfoldable pub all_zero : List ℕ → Bool
all_zero l = eqb (total l) 0
  where
    total : List ℕ → ℕ
    total [] = 0
    total (n ∷ l) = n + total l

-- the first element that passes, or d where none does
unfoldable pub find : {A : Type 0} → (A → Bool) → A → List A → A
find t d [] = d
find t d (x ∷ l) = cond (t x) x (find t d l)

-- the number of the first element that passes, or of all of them where none does
unfoldable pub first_place : {A : Type 0} → (A → Bool) → List A → ℕ
first_place t [] = 0
first_place t (x ∷ l) = cond (t x) 0 (suc (first_place t l))

-- a in the place of the first element that passes: the lowest
unfoldable pub fill : {A : Type 0} → (A → Bool) → A → List A → List A
fill t a [] = []
fill t a (x ∷ l) = cond (t x) (a ∷ l) (x ∷ fill t a l)

-- f where the test holds, and elsewhere nothing
abbrev pub at : {A : Type 0} → (A → Bool) → (A → A) → A → A
at t f x = cond (t x) (f x) x

-- every element that passes is changed by f
abbrev pub change : {A : Type 0} → (A → Bool) → (A → A) → List A → List A
change t f l = map (at t f) l

-- the least number from 1 to n that passes, and 0 where none does
unfoldable pub least : ℕ → (ℕ → Bool) → ℕ
least zero f = 0
least (suc n) f = let r = least n f in cond (eqb r 0) (cond (f (suc n)) (suc n) 0) r

-- a test and the number that it gives where it holds
infix 20 ◌⇒◌
pub data Check : Type 0 where
  ◌⇒◌ : Bool → ℕ → Check

-- the number of the first test that holds, and 0 where none does
unfoldable pub first : List Check → ℕ
first [] = 0
first ((b ⇒ n) ∷ l) = cond b n (first l)
