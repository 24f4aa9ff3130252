-- The first that passes a test, in a list and among numbered slots. Definitions only.
use Rattle.std.specs.Prelude.{ℕ, ◌<◌, Bool, true, false, cond, List, Option, Some, None, MatchOption}
use Rattle.rules.specs.Words.{any, first_place}

-- the number of the first element that passes, if one does
unfoldable pub found : {A : Type 0} → (A → Bool) → List A → Option ℕ
found t l = cond (any t l) (Some (first_place t l)) None

-- of n slots r is the first that passes, by what the test answers of each slot
unfoldable pub IsFirst : (ℕ → Bool → Type 0) → ℕ → Option ℕ → Type 0
IsFirst gives n r =
    MatchOption r
    ((i : ℕ) → i < n → gives i false)
    (λ k. (k < n) × gives k true × ((i : ℕ) → i < k → gives i false))
