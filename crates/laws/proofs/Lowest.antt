-- The lowest record that breaks a rule: how a loop finds it, what a rule of several parts makes of it, and what it is worth. Assumes nothing.
use Prim.Native.Nat.{ℕ, zero, suc, ◌+◌, ◌≤◌, ◌<◌}
use mathlib.Core.{Bool.{Bool, true, false, cond, not, ◌&&◌}, List.{List, [], ◌∷◌, ◌++◌}, Path.{◌≡◌, refl, sym, ap, ◌∙◌, subst}}
use native.{Mathlib.Nat.le_of_suc-le-suc, Mathlib.Numerals.add-one, Mathlib.Omega.arith, Mathlib.Decide.dec_lt}
use borrow.Author.Tests.{not-true, not-false, lt-ltb, le-ltb}
use lib.{Dec.ltb, ListN.{length, get_or, take}, Seq.{take-suc, take_all, take-length}}
use Rattle.rules.specs.Faults.{first_number, lowest}

-- ---- the first number that passes

first_is : (n i : ℕ) (f : ℕ → Bool) → i ≤ n → ((j : ℕ) → j < i → f j ≡ false) → (i < n → f i ≡ true) → i ≡ first_number n f
unfolding first_number
first_is zero zero f h below here = refl
first_is zero (suc i) f h below here = absurd (omega arith)
first_is (suc n) zero f h below here = rw (here (omega arith))
first_is (suc n) (suc i) f h below here =
    ap suc (first_is n i (λ k. f (suc k)) (le_of_suc-le-suc h) (λ j l. below (suc j) (omega arith)) (λ l. here (omega arith)))
    ∙ ap (λ b. cond b 0 (suc (first_number n (λ k. f (suc k))))) (sym (below 0 (omega arith)))

-- what it is worth: it is no larger than n, below n it passes, and what is below it does not
record First (n r : ℕ) (f : ℕ → Bool) : Type 0 where
  small : r ≤ n
  passes : r < n → f r ≡ true
  below : (j : ℕ) → j < r → f j ≡ false

first_first : (n : ℕ) (f : ℕ → Bool) → First n (first_number n f) f
unfolding first_number
first_first zero f =
    record { small = omega arith; passes = λ h. let z : ⊥ = omega arith in absurd z; below = λ j h. let z : ⊥ = omega arith in absurd z }
first_first (suc n) f = go (f 0) refl (first_first n (λ k. f (suc k)))
  where
    later : {m : ℕ} → f 0 ≡ false → First n m (λ k. f (suc k)) → (j : ℕ) → j < suc m → f j ≡ false
    later e r zero h = e
    later e r (suc j) h = r.below j (omega arith)

    go : {m : ℕ} (b : Bool) → f 0 ≡ b → First n m (λ k. f (suc k)) → First (suc n) (cond b 0 (suc m)) f
    go true e r = record { small = omega arith; passes = λ h. e; below = λ j h. let z : ⊥ = omega arith in absurd z }
    go false e r = record { small = omega (arith, r.small); passes = λ h. r.passes (omega arith); below = later e r }

-- ---- a rule that grows: with one record more it asks `more` of the records before it and of that one

pub record Grows {A : Type 0} (rule : List A → Bool) (more : List A → A → Bool) : Type 0 where
  pub none : rule [] ≡ true
  pub one_more : (l : List A) (x : A) → rule (l ++ (x ∷ [])) ≡ (rule l && more l x)

both_l : (a b : Bool) → (a && b) ≡ true → a ≡ true
both_l true b e = refl
both_l false b e = e

module _ {A : Type 0} {rule : List A → Bool} {more : List A → A → Bool} (g : Grows rule more) (d : A) (l : List A) where
  grown : (i : ℕ) → i < length l → rule (take (suc i) l) ≡ (rule (take i l) && more (take i l) (get_or l i d))
  grown i h = ap rule (take-suc l i d h) ∙ g.one_more (take i l) (get_or l i d)

  closed : (i : ℕ) → rule (take (suc i) l) ≡ true → rule (take i l) ≡ true
  closed i e = elim (dec_lt i (length l)) [
    | yes h ↦ both_l (rule (take i l)) (more (take i l) (get_or l i d)) (sym (grown i h) ∙ e)
    | no h ↦ ap rule (take_all i l (omega arith)) ∙ sym (ap rule (take_all (suc i) l (omega arith))) ∙ e
  ]

  kept_below : (i j : ℕ) → j < i → rule (take i l) ≡ true → rule (take (suc j) l) ≡ true
  kept_below zero j h e = absurd (omega arith)
  kept_below (suc i) j h e = go (kept_below i j) (closed i e)
    where
      go : (j < i → rule (take i l) ≡ true → rule (take (suc j) l) ≡ true) → rule (take i l) ≡ true → rule (take (suc j) l) ≡ true
      go r k = elim (dec_lt j i) [
        | yes b ↦ r b k
        | no b ↦ let q : i ≡ j = omega arith in subst (λ n. rule (take (suc n) l) ≡ true) q e
      ]

  lowest_here : (i : ℕ) → i ≤ length l → rule (take i l) ≡ true → (i < length l → rule (take (suc i) l) ≡ false) → i ≡ lowest rule l
  unfolding lowest
  lowest_here i h kept here =
      first_is (length l) i (λ j. not (rule (take (suc j) l))) h (λ j b. ap not (kept_below i j b kept)) (λ b. ap not (here b))

  -- a loop: at record i, x, whose test gives b, it stops or goes on
  module _ (i : ℕ) {x : A} {b : Bool} (kept : rule (take i l) ≡ true) (h : i < length l) (at : x ≡ get_or l i d) (t : b ≡ more (take i l) x) where
    told : rule (take (suc i) l) ≡ b
    told = grown i h ∙ ap (λ k. k && more (take i l) (get_or l i d)) kept ∙ ap (more (take i l)) (sym at) ∙ sym t

    pub breaks_here : not b ≡ true → i ≡ lowest rule l
    breaks_here n = lowest_here i (omega arith) kept (λ h. told ∙ not-true b n)

    pub keeps_on : not b ≡ false → rule (take (i + 1) l) ≡ true
    keeps_on n = ap (λ k. rule (take k l)) (add-one i) ∙ told ∙ not-false b n

  pub breaks_nowhere : (i : ℕ) {n : ℕ} → rule (take i l) ≡ true → n ≡ length l → n ≤ i → n ≡ lowest rule l
  breaks_nowhere i {n} kept e h =
      e ∙ lowest_here (length l) (omega arith) (ap rule (take-length l ∙ sym (take_all i l (omega arith))) ∙ kept) (λ b. let z : ⊥ = omega arith in absurd z)

  -- ---- what the lowest record is worth

  abbrev breaker : ℕ → Bool
  breaker = λ i. not (rule (take (suc i) l))

  is_first : First (length l) (lowest rule l) breaker
  unfolding lowest
  is_first = first_first (length l) breaker

  -- the records below it keep the rule
  pub lowest_below : rule (take (lowest rule l) l) ≡ true
  lowest_below = go (lowest rule l) is_first.below
    where
      go : (r : ℕ) → ((j : ℕ) → j < r → breaker j ≡ false) → rule (take r l) ≡ true
      go zero h = g.none
      go (suc r) h = not-false (rule (take (suc r) l)) (h r (omega arith))

  -- with it they break it
  pub lowest_with : lowest rule l < length l → rule (take (suc (lowest rule l)) l) ≡ false
  lowest_with h = not-true (rule (take (suc (lowest rule l)) l)) (is_first.passes h)

  -- it is a record exactly if the rule is broken
  pub lowest_told : ltb (lowest rule l) (length l) ≡ not (rule l)
  lowest_told = elim (dec_lt (lowest rule l) (length l)) [
    | yes h ↦ lt-ltb (lowest rule l) (length l) h ∙ sym (ap not (broken h))
    | no h ↦ le-ltb (lowest rule l) (length l) (omega arith) ∙ sym (ap not (kept (omega arith)))
  ]
    where
      kept : length l ≤ lowest rule l → rule l ≡ true
      kept h = ap rule (sym (take_all (lowest rule l) l h)) ∙ lowest_below

      go : lowest rule l < length l → (b : Bool) → rule l ≡ b → b ≡ false
      go h false e = refl
      go h true e =
          sym (kept_below (length l) (lowest rule l) h (ap rule (take-length l) ∙ e)) ∙ lowest_with h

      broken : lowest rule l < length l → rule l ≡ false
      broken h = let q = go h (rule l) refl in q

-- ---- a rule of two parts

pub both_grow : {A : Type 0} {f g : List A → Bool} {m n : List A → A → Bool} → Grows f m → Grows g n → Grows (λ l. f l && g l) (λ l x. m l x && n l x)
both_grow {A} {f} {g} {m} {n} a b =
    record {
      none = ap (λ k. k && g []) a.none ∙ b.none;
      one_more = λ l x. ap (λ k. k && g (l ++ (x ∷ []))) (a.one_more l x)
          ∙ ap (λ k. (f l && m l x) && k) (b.one_more l x) ∙ turn (f l) (m l x) (g l) (n l x);
    }
  where
    turn : (a b c d : Bool) → ((a && b) && (c && d)) ≡ ((a && c) && (b && d))
    turn false b c d = refl
    turn true false false d = refl
    turn true false true d = refl
    turn true true c d = refl

-- the same asked in other words
pub grows_as : {A : Type 0} {f : List A → Bool} {m n : List A → A → Bool} → ((l : List A) (x : A) → m l x ≡ n l x) → Grows f m → Grows f n
grows_as {A} {f} {m} {n} h s = record { none = s.none; one_more = λ l x. s.one_more l x ∙ ap (λ k. f l && k) (h l x) }
