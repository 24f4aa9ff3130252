-- The numbers that a configuration message lists, and those that it leaves 0. Assumes nothing.
use Prim.Native.Nat.{ℕ, zero, suc, ◌+◌, ◌≤◌, ◌<◌, zero-le}
use mathlib.Core.{Bool.{Bool, true, false, cond, ◌&&◌}, List.{List, [], ◌∷◌}, Logic.◌≢◌, Path.{◌≡◌, refl, sym, ap, ◌∙◌}}
use native.Mathlib.{Nat.zero-add, Omega.arith}
use Rattle.std.specs.List.{list_all, range_with_len}
use borrow.Author.Tests.{ne_eqb}
use lib.{Dec.eqb, ListN.{length, get_or, take, drop, get_or-eq_default}, Seq.{length-take-le, get_or-take}}
use Rattle.records.specs.declared.Event.{Event}
use Rattle.rules.specs.{Words.{any, all, all_zero}, Forms.{eight, listed}}
use Rattle.laws.proofs.Loops.{rest, any_here, any_next, any_end}

past_four : (n i : ℕ) → n ≤ i → i ≢ n → i ≢ n + 1 → i ≢ n + 2 → i ≢ n + 3 → n + 4 ≤ i
past_four n i h a b c d = omega arith

module _ (e : Event) where
  pub past_eight : (i : ℕ) → i ≢ 0 → i ≢ 1 → i ≢ 2 → i ≢ 3 → i ≢ 4 → i ≢ 5 → i ≢ 6 → i ≢ 7 → 0 ≡ get_or (eight e) i 0
  past_eight i n₀ n₁ n₂ n₃ n₄ n₅ n₆ n₇ =
      sym (get_or-eq_default (eight e) 0 {n = i} (past_four 4 i (past_four 0 i zero-le n₀ n₁ n₂ n₃) n₄ n₅ n₆ n₇))

  pub listed_length : e.fourth ≤ 8 → length (listed e) ≡ e.fourth
  listed_length h = length-take-le e.fourth (eight e) h

  pub listed_at : {i n : ℕ} → i < e.fourth → n ≡ get_or (eight e) i 0 → n ≡ get_or (listed e) i 0
  listed_at {i} h q = q ∙ sym (get_or-take e.fourth (eight e) i 0 h)

both_zero : (n k : ℕ) → (eqb n 0 && eqb k 0) ≡ eqb (n + k) 0
both_zero zero k = ap (λ m. eqb m 0) (sym (zero-add k))
both_zero (suc n) k = rw (ne_eqb (suc n) 0 (λ q. omega arith), ne_eqb (suc n + k) 0 (λ q. omega arith))

-- each of them is 0
pub all_zero_is : (l : List ℕ) → all (λ n. eqb n 0) l ≡ all_zero l
unfolding all all_zero
all_zero_is [] = refl
all_zero_is (n ∷ l) = ap (λ b. eqb n 0 && b) (all_zero_is l) ∙ both_zero n _

-- n elements from i on, tested by their places
pub all_by_place : (f : ℕ → Bool) (l : List ℕ) (i n : ℕ) → i + n ≤ length l → list_all (λ k. f (get_or l k 0)) (range_with_len i n) ≡ all f (take n (drop i l))
unfolding all
all_by_place f l i zero h = refl
all_by_place f l i (suc n) h =
    rw (rest 0 l i (omega arith)) (ap (λ b. f (get_or l i 0) && b) (all_by_place f l (i + 1) n (omega arith)))

same_either_way : (b : Bool) (v : ℕ) → v ≡ cond b v v
same_either_way true v = refl
same_either_way false v = refl

-- a loop that tells v once a number passes the test, and k so far: w is what it tells in the end
module _ (l : List ℕ) (i : ℕ) (f : ℕ → Bool) (v k : ℕ) {w : ℕ} (inv : cond (any f (drop i l)) v k ≡ w) where
  pub told_here : {x : ℕ} → i < length l → x ≡ get_or l i 0 → f x ≡ true → cond (any f (drop (i + 1) l)) v v ≡ w
  told_here h e t = sym (same_either_way (any f (drop (i + 1) l)) v) ∙ ap (λ b. cond b v k) (sym (any_here 0 l i f h (ap f (sym e) ∙ t))) ∙ inv

  pub told_later : {x : ℕ} → i < length l → x ≡ get_or l i 0 → f x ≡ false → cond (any f (drop (i + 1) l)) v k ≡ w
  told_later h e t = ap (λ b. cond b v k) (sym (any_next 0 l i f h (ap f (sym e) ∙ t))) ∙ inv

  pub told_all : length l ≤ i → k ≡ w
  told_all h = ap (λ b. cond b v k) (sym (any_end 0 l i f h)) ∙ inv

-- what is told of a list where a is whether one of it is unknown, b whether one is no third party root
module _ (a b : Bool) {r : ℕ} where
  pub told_unknown : r ≡ cond a 3 (cond b 12 0) → r ≡ 3 → a ≡ true
  told_unknown q e = go a b q
    where
      go : (a b : Bool) → r ≡ cond a 3 (cond b 12 0) → a ≡ true
      go true b q = refl
      go false true q = absurd (omega arith)
      go false false q = absurd (omega arith)

  pub told_known : r ≡ cond a 3 (cond b 12 0) → r ≢ 3 → a ≡ false
  told_known q n = go a q
    where
      go : (a : Bool) → r ≡ cond a 3 (cond b 12 0) → a ≡ false
      go true q = absurd (n q)
      go false q = refl

  pub told_other : r ≡ cond a 3 (cond b 12 0) → a ≡ false → r ≡ cond b 12 0
  told_other q e = q ∙ ap (λ a. cond a 3 (cond b 12 0)) e
