-- What `least` finds: a number from 1 to n that passes, and no smaller one does. Assumes nothing.
use Prim.Native.Nat.{ℕ, zero, suc, ◌≤◌}
use mathlib.Core.{Bool.{Bool, true, false, cond, not}, Logic.◌≢◌, Path.{◌≡◌, refl, subst}}
use native.Mathlib.Omega.{arith}
use lib.Dec.{T, T_not, eqb, eqb→eq}
use Rattle.rules.specs.Words.{least}
use Rattle.laws.proofs.Tests.{neqb→ne, by_test}

module _ (f : ℕ → Bool) where
  -- one more number to look at, after r was found among those below it
  abbrev further : ℕ → Bool → ℕ → ℕ
  further n b r = cond (eqb r 0) (cond b (suc n) 0) r

  further_cases : (P : ℕ → Type 0) (n : ℕ) (b : Bool) (r : ℕ) → (r ≢ 0 → P r) → (r ≡ 0 → T b → P (suc n)) → (r ≡ 0 → T (not b) → P 0) → P (further n b r)
  further_cases P n b r old new none = go (eqb r 0) b (λ z. eqb→eq r 0 z) (λ z. neqb→ne r 0 z) new none
    where
      go : (z b : Bool) → (T z → r ≡ 0) → (T (not z) → r ≢ 0) → (r ≡ 0 → T b → P (suc n)) → (r ≡ 0 → T (not b) → P 0) → P (cond z (cond b (suc n) 0) r)
      go true true y x new none = new (y tt) tt
      go true false y x new none = none (y tt) tt
      go false b y x new none = old (x tt)

  pub least_small : (n : ℕ) → least n f ≤ n
  unfolding least
  least_small zero = omega arith
  least_small (suc n) =
      let below = least_small n in
      further_cases (λ r. r ≤ suc n) n (f (suc n)) (least n f) (λ x. omega arith) (λ z t. omega arith) (λ z t. omega arith)

  pub least_passes : (n : ℕ) → least n f ≢ 0 → T (f (least n f))
  unfolding least
  least_passes zero nz = absurd (nz refl)
  least_passes (suc n) nz =
      further_cases (λ r. r ≢ 0 → T (f r)) n (f (suc n)) (least n f) (λ x y. least_passes n x) (λ z t y. t) (λ z t y. absurd (y refl)) nz

  -- whatever passes is not below what was found, and then something was found
  pub least_least : (n m : ℕ) → 1 ≤ m → m ≤ n → T (f m) → (least n f ≢ 0) × (least n f ≤ m)
  unfolding least
  least_least zero m lo hi h = absurd (omega arith)
  least_least (suc n) m lo hi h =
      by_test (eqb m (suc n)) (λ t. here (eqb→eq m (suc n) t)) (λ t. below (least_least n m lo (omega (arith, neqb→ne m (suc n) t)) h))
    where
      here : m ≡ suc n → (further n (f (suc n)) (least n f) ≢ 0) × (further n (f (suc n)) (least n f) ≤ m)
      here e =
          further_cases (λ r. (r ≢ 0) × (r ≤ m)) n (f (suc n)) (least n f) (λ x. (x, omega (arith, least_small n))) (λ z t. omega arith)
          (λ z t. absurd (T_not (f (suc n)) t (subst (λ k. T (f k)) e h)))

      below : (least n f ≢ 0) × (least n f ≤ m) → (further n (f (suc n)) (least n f) ≢ 0) × (further n (f (suc n)) (least n f) ≤ m)
      below r =
          further_cases (λ r. (r ≢ 0) × (r ≤ m)) n (f (suc n)) (least n f) (λ x. r) (λ z t. absurd (r.0 z)) (λ z t. absurd (r.0 z))
