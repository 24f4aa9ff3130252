-- What it is to compare two texts: where they begin to differ, and whether they do. Definitions only.
use Rattle.std.specs.Prelude.{ℕ, ◌≤◌, ◌<◌}
use mathlib.Core.{Bool.{Bool, true, false}, List.List, Logic.◌≢◌, Path.◌≡◌}
use Rattle.std.specs.Prelude.{length, get_or, take}

-- before byte n the two are the same, and at n they differ or one ends
pub record FirstDifference (a b : List ℕ) (n : ℕ) : Type 0 where
  pub within : n ≤ length a
  pub within_other : n ≤ length b
  pub before_it : take n a ≡ take n b
  pub at_it : n < length a → n < length b → get_or a n 0 ≢ get_or b n 0

-- whether the two differ
pub record Differ (a b : List ℕ) (r : Bool) : Type 0 where
  pub same : r ≡ false → a ≡ b
  pub other : r ≡ true → a ≢ b
