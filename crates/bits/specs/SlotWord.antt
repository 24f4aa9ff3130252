-- A word with a bit for each slot, the lowest for the first. Definitions only.
use Rattle.std.specs.Prelude.{ℕ, ◌+◌, ◌-◌, ◌*◌, ◌/◌, ◌%◌, ◌^◌}
use mathlib.Core.{Bool.{Bool, false, cond, ◌&&◌, ◌||◌}, List.{List, [], ◌∷◌}}
use lib.{Dec.eqb, Count.count_trailing_zeros}

-- the word whose bit i is set exactly where slot i passes the test
unfoldable pub word : {A : Type 0} → (A → Bool) → List A → ℕ
word f [] = 0
word f (x ∷ l) = word f l * 2 + cond (f x) 1 0

-- some slot whose bit is set passes the test
unfoldable pub any_of : {A : Type 0} → ℕ → (A → Bool) → List A → Bool
any_of w f [] = false
any_of w f (x ∷ l) = (eqb (w % 2) 1 && f x) || any_of (w / 2) f l

-- the bits whose slots pass the test
unfoldable pub keep : {A : Type 0} → ℕ → (A → Bool) → List A → ℕ
keep w f [] = 0
keep w f (x ∷ l) = keep (w / 2) f l * 2 + cond (eqb (w % 2) 1 && f x) 1 0

-- a word of d bits without the lowest that is set
abbrev pub less_lowest : ℕ → ℕ → ℕ
less_lowest d w = w - 2 ^ count_trailing_zeros d w
