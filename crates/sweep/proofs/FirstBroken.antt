-- What the first slot that breaks a rule tells of the list behind the slots. Assumes nothing.
use Prim.Native.Nat.{ℕ, zero, suc, ◌≤◌, ◌<◌}
use mathlib.Core.{Bool.{Bool, true, false, cond, not}, List.List, Path.{◌≡◌, refl, sym, ap, ◌∙◌}}
use native.{Mathlib.Numerals.add-one, Mathlib.Omega.arith}
use borrow.Author.Tests.{not-true, not-false, lt-ltb, le-ltb}
use lib.ListN.{length, get_or, take}
use Rattle.std.specs.Prelude.{Option, Some, None, is_some}
use Rattle.rules.specs.{Words.all, Faults.lowest}
use Rattle.laws.proofs.{Lowest.{Grows, breaks_here, breaks_nowhere, keeps_on, lowest_told}, More.{all_grows, below_fails}}
use Rattle.sweep.specs.{FirstPassing.IsFirst, LowestBroken.broken_at}

module _ {A : Type 0} {rule : List A → Bool} {more : List A → A → Bool} (g : Grows rule more) (d : A) (l : List A) (gives : ℕ → Bool → Type 0) (n : ℕ) where
  -- the test answers of slot i whether it breaks the rule together with lower ones
  abbrev Breaks : Type 0
  Breaks = (i : ℕ) (b : Bool) → i < n → gives i b → b ≡ not (more (take i l) (get_or l i d))

  asks : Breaks → (i : ℕ) (b : Bool) → i < n → gives i b → not b ≡ more (take i l) (get_or l i d)
  asks tells i b h p = ap not (tells i b h p) ∙ twice (more (take i l) (get_or l i d))
    where
      twice : (b : Bool) → not (not b) ≡ b
      twice true = refl
      twice false = refl

  -- no slot below slot k breaks it
  pub kept_to : Breaks → n ≤ length l → (k : ℕ) → k ≤ n → ((i : ℕ) → i < k → gives i false) → rule (take k l) ≡ true
  kept_to tells room zero h none = g.none
  kept_to tells room (suc k) h none =
      ap (λ m. rule (take m l)) (sym (add-one k))
      ∙ keeps_on g d l k {b = true} (kept_to tells room k (omega arith) (λ i q. none i (omega arith))) (omega arith) refl
      (asks tells k false (omega arith) (none k (omega arith))) refl

  pub broken_found : n ≡ length l → {r : Option ℕ} → IsFirst gives n r → Breaks → r ≡ broken_at rule l
  unfolding broken_at IsFirst
  broken_found slots {r = Some k} f tells =
      let kept = kept_to tells (omega arith) k (omega (arith, f.0)) f.2 in
      let at = breaks_here g d l k {b = false} kept (omega (arith, f.0)) refl (asks tells k true f.0 f.1) refl in
      let broken = sym (lowest_told g d l) ∙ lt-ltb (lowest rule l) (length l) (omega (arith, f.0, at)) in
      ap Some at ∙ ap (λ b. cond b None (Some (lowest rule l))) (sym (not-true (rule l) broken))
  broken_found slots {r = None} f tells =
      let nowhere = breaks_nowhere g d l n (kept_to tells (omega arith) n (omega arith) f) slots (omega arith) in
      let kept = sym (lowest_told g d l) ∙ le-ltb (lowest rule l) (length l) (omega (arith, nowhere, slots)) in
      ap (λ b. cond b None (Some (lowest rule l))) (sym (not-false (rule l) kept))

-- whether each slot below slot n passes
module _ {A : Type 0} (t : A → Bool) (d : A) (l : List A) (gives : ℕ → Bool → Type 0) (n : ℕ) where
  pub all_below : n ≤ length l → (r : Option ℕ) {b : Bool} → IsFirst gives n r → is_some r ≡ not b
      → ((i : ℕ) (b : Bool) → i < n → gives i b → b ≡ not (t (get_or l i d))) → b ≡ all t (take n l)
  unfolding IsFirst
  all_below room (Some k) {b} f e tells =
      let kept = kept_to (all_grows t) d l gives n tells room k (omega (arith, f.0)) f.2 in
      not-true b (sym e) ∙ below_fails t d l k {b = false} (omega (arith, f.0)) kept f.0 room refl (asks (all_grows t) d l gives n tells k true f.0 f.1) refl
  all_below room None {b} f e tells = not-false b (sym e) ∙ sym (kept_to (all_grows t) d l gives n tells room n (omega arith) f)
