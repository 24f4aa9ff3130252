-- Of the slots of one test there is one first. Assumes nothing.
use Prim.Native.Nat.{ℕ}
use mathlib.Core.{Bool.{Bool, true, false, false≢true}, Path.{◌≡◌, refl, ap}}
use native.{Mathlib.Omega.arith, Mathlib.Decide.dec_lt}
use Rattle.std.specs.Prelude.{Option, Some, None}
use Rattle.sweep.specs.FirstPassing.{IsFirst}

-- the test answers of each slot one thing alone
module _ (gives : ℕ → Bool → Type 0) (sole : (i : ℕ) (b b' : Bool) → gives i b → gives i b' → b ≡ b') (n : ℕ) where
  both : {A : Type 0} (i : ℕ) → gives i false → gives i true → A
  both i f t = absurd (false≢true (sole i false true f t))

  pub one_first : (r r' : Option ℕ) → IsFirst gives n r → IsFirst gives n r' → r ≡ r'
  unfolding IsFirst
  one_first None None f g = refl
  one_first None (Some k) f g = both k (f k g.0) g.1
  one_first (Some j) None f g = both j (g j f.0) f.1
  one_first (Some j) (Some k) f g = elim (dec_lt j k) [
    | yes h ↦ both j (g.2 j h) f.1
    | no h ↦ elim (dec_lt k j) [ yes l ↦ both k (f.2 k l) g.1 | no l ↦ ap Some (let q : j ≡ k = omega arith in q) ]
  ]
