-- A rule that holds at every number below n, by one test that antt computes. Assumes nothing.
use Prim.Native.Nat.{ℕ, zero, suc, ◌<◌}
use mathlib.Core.{Bool.{Bool, true, false, ◌&&◌}, Path.{◌≡◌, refl}}
use native.Mathlib.Nat.{not-suc-le-zero, le_of_suc-le-suc}
use lib.Dec.{T}
use Rattle.laws.proofs.Tests.{and_l, and_r}

abbrev pub all_below : ℕ → (ℕ → Bool) → Bool
all_below zero f = true
all_below (suc n) f = f zero && all_below n (λ k. f (suc k))

pub below : (n : ℕ) (f : ℕ → Bool) → T (all_below n f) → (k : ℕ) → k < n → T (f k)
below zero f t k h = absurd (not-suc-le-zero h)
below (suc n) f t zero h = and_l (f zero) (all_below n (λ j. f (suc j))) t
below (suc n) f t (suc k) h = below n (λ j. f (suc j)) (and_r (f zero) (all_below n (λ j. f (suc j))) t) k (le_of_suc-le-suc h)

-- two tests that agree
abbrev pub same : Bool → Bool → Bool
same true b = b
same false true = false
same false false = true

pub same_is : (a b : Bool) → T (same a b) → a ≡ b
same_is true true t = refl
same_is true false t = absurd t
same_is false true t = absurd t
same_is false false t = refl
