-- What the first slot that passes tells of the list behind the slots. Assumes nothing.
use Prim.Native.Nat.{ℕ, zero, suc, ◌+◌, ◌≤◌, ◌<◌}
use mathlib.Core.{Bool.{Bool, true, false, cond}, List.List, Path.{◌≡◌, refl, sym, ap, ◌∙◌}}
use lib.ListN.{length, get_or, drop}
use native.{Mathlib.Nat.zero-add, Mathlib.Omega.arith}
use Rattle.std.specs.Prelude.{Option, Some, None, is_some}
use Rattle.rules.specs.Words.{any, first_place}
use Rattle.laws.proofs.Places.{place_here, place_past, place_end, place_none, somewhere}
use Rattle.sweep.specs.FirstPassing.{found, IsFirst}

-- the first place, if there is one
abbrev at_if : {A : Type 0} → (A → Bool) → List A → Bool → Option ℕ
at_if t l b = cond b (Some (first_place t l)) None

module _ {A : Type 0} (t : A → Bool) (l : List A) (d : A) (gives : ℕ → Bool → Type 0) {n : ℕ} (slots : n ≡ length l) where
  -- the test answers of slot i what t does of the element there
  abbrev Tells : Type 0
  Tells = (i : ℕ) (b : Bool) → i < n → gives i b → b ≡ t (get_or l i d)

  -- no slot below slot k passes
  passed : Tells → (k : ℕ) → k ≤ n → ((i : ℕ) → i < k → gives i false) → first_place t l ≡ k + first_place t (drop k l)
  passed tells zero h none = sym (zero-add _)
  passed tells (suc k) h none =
      place_past t d l k (omega arith) (passed tells k (omega arith) (λ i q. none i (omega arith))) (omega arith)
      (sym (tells k false (omega arith) (none k (omega arith))))

  pub first_found : {r : Option ℕ} → IsFirst gives n r → Tells → r ≡ found t l
  unfolding found IsFirst
  first_found {r = Some k} f tells =
      let inv = passed tells k (omega (arith, f.0)) f.2 in
      let yes = sym (tells k true f.0 f.1) in
      ap Some (place_here t d l k inv (omega (arith, f.0)) yes) ∙ ap (at_if t l) (sym (somewhere t d l k (omega (arith, f.0)) yes))
  first_found {r = None} f tells = ap (at_if t l) (sym (place_none t l (place_end t d l n (passed tells n (omega arith) f) (omega arith)) refl (omega arith)))

  -- whether one passes
  pub some_found : (r : Option ℕ) {b : Bool} → IsFirst gives n r → b ≡ is_some r → Tells → b ≡ any t l
  unfolding found
  some_found r f e tells = e ∙ ap is_some (first_found f tells) ∙ each (any t l)
    where
      each : (b : Bool) → is_some (at_if t l b) ≡ b
      each true = refl
      each false = refl
