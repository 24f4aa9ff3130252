-- Events that come from a descriptor and are stepped one after the other. What they are is the system's; how many is not. Definitions only.
use Rattle.std.specs.Prelude.{ℕ, ◌≤◌, length}
use mathlib.Core.{List.List, Path.◌≡◌}
use Rattle.rules.specs.Step.{run}

-- an image after some events, at most so many
pub record RanAtMost (l : List ℕ) (most : ℕ) (l' : List ℕ) : Type 0 where
  pub events : List (List ℕ)
  pub few : length events ≤ most
  pub image : l' ≡ run l events
