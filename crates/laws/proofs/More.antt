-- Rules that grow by one record: `all`, `all_pairs` and `distinct`, each with what it asks of the record more. Assumes nothing.
use Prim.Native.Nat.{ℕ, zero, suc, ◌+◌, ◌-◌, ◌≤◌, ◌<◌}
use mathlib.Core.{Bool.{Bool, true, false, not, ◌&&◌, ◌||◌, and-true, or-true}, List.{List, [], ◌∷◌, ◌++◌, map}, Path.{◌≡◌, refl, sym, ap, ◌∙◌, subst}}
use native.{Mathlib.Numerals.add-one, Mathlib.Omega.arith, Mathlib.Decide.dec_lt}
use borrow.Author.Tests.{not-true, not-false, ne_eqb}
use lib.{Dec.{eqb, eqb→eq}, ListN.{length, get_or, take}, Seq.take-suc}
use Rattle.rules.specs.{Words.{any, all, all_pairs, distinct}, Parts.apart}
use Rattle.laws.proofs.{Tests.{neqb→ne, by_test}, Lowest.Grows}

and_and : (a b c : Bool) → (a && (b && c)) ≡ ((a && b) && c)
and_and true b c = refl
and_and false b c = refl

module _ {A : Type 0} where
  all_more : (f : A → Bool) (l : List A) (x : A) → all f (l ++ (x ∷ [])) ≡ (all f l && f x)
  unfolding all
  all_more f [] x = and-true (f x)
  all_more f (y ∷ l) x = ap (λ b. f y && b) (all_more f l x) ∙ and_and (f y) (all f l) (f x)

  pub all_grows : (f : A → Bool) → Grows (all f) (λ l x. f x)
  unfolding all
  all_grows f = record { none = refl; one_more = all_more f }

  pub all_and : (f g : A → Bool) (l : List A) → all (λ y. f y && g y) l ≡ (all f l && all g l)
  unfolding all
  all_and f g [] = refl
  all_and f g (y ∷ l) = ap (λ b. (f y && g y) && b) (all_and f g l) ∙ turn (f y) (g y) (all f l) (all g l)
    where
      turn : (a b c d : Bool) → ((a && b) && (c && d)) ≡ ((a && c) && (b && d))
      turn false b c d = refl
      turn true false false d = refl
      turn true false true d = refl
      turn true true c d = refl

  -- a test of pairs that each record passes with itself: the record more passes it with each before, both ways
  module _ (r : A → A → Bool) (self : (x : A) → r x x ≡ true) where
    pairs_more : (l : List A) (x : A) → all_pairs r (l ++ (x ∷ [])) ≡ (all_pairs r l && all (λ y. r x y && r y x) l)
    pairs_more l x =
        all_more (λ y. all (r y) (l ++ (x ∷ []))) l x
        ∙ ap (λ b. all (λ y. all (r y) (l ++ (x ∷ []))) l && b) (all_more (r x) l x ∙ ap (λ b. all (r x) l && b) (self x) ∙ and-true (all (r x) l))
        ∙ ap (λ b. b && all (r x) l) (ap (λ f. all f l) (λ i y. all_more (r y) l x i) ∙ all_and (λ y. all (r y) l) (λ y. r y x) l)
        ∙ turn (all_pairs r l) (all (λ y. r y x) l) (all (r x) l)
        ∙ ap (λ b. all_pairs r l && b) (sym (all_and (r x) (λ y. r y x) l))
      where
        turn : (a b c : Bool) → ((a && b) && c) ≡ (a && (c && b))
        turn false b c = refl
        turn true true true = refl
        turn true true false = refl
        turn true false true = refl
        turn true false false = refl

    pub pairs_grow : Grows (all_pairs r) (λ l x. all (λ y. r x y && r y x) l)
    unfolding all
    pairs_grow = record { none = refl; one_more = pairs_more }

    -- one way is enough where the test is even
    pub even_pairs_grow : ((x y : A) → r x y ≡ r y x) → Grows (all_pairs r) (λ l x. all (r x) l)
    unfolding all
    even_pairs_grow even =
        record { none = refl; one_more = λ l x. pairs_more l x ∙ ap (λ f. all_pairs r l && all f l) (λ i y. once x y i) }
      where
        twice : (b : Bool) → (b && b) ≡ b
        twice true = refl
        twice false = refl

        once : (x y : A) → (r x y && r y x) ≡ r x y
        once x y = ap (λ b. r x y && b) (sym (even x y)) ∙ twice (r x y)

-- ---- numbers that differ, but for 0

apart_even : (n m : ℕ) → apart n m ≡ apart m n
apart_even n m =
    by_test (eqb n m)
    (λ t. subst (λ k. apart n k ≡ apart k n) (eqb→eq n m t) refl)
    (λ t. let d = neqb→ne n m t in rw (ne_eqb n m d, ne_eqb m n (λ e. d (sym e)), or-true (eqb n 0), or-true (eqb m 0)))

module _ {A : Type 0} (f : A → ℕ) where
  any_more : (t : ℕ → Bool) (l : List A) (x : A) → any t (map f (l ++ (x ∷ []))) ≡ (any t (map f l) || t (f x))
  unfolding any
  any_more t [] x = go (t (f x))
    where
      go : (b : Bool) → (b || false) ≡ b
      go true = refl
      go false = refl
  any_more t (y ∷ l) x = ap (λ b. t (f y) || b) (any_more t l x) ∙ go (t (f y)) (any t (map f l)) (t (f x))
    where
      go : (a b c : Bool) → (a || (b || c)) ≡ ((a || b) || c)
      go true b c = refl
      go false b c = refl

  distinct_more : (l : List A) (x : A) → distinct (map f (l ++ (x ∷ []))) ≡ (distinct (map f l) && all (λ y. apart (f x) (f y)) l)
  unfolding distinct any all
  distinct_more [] x = ap (λ b. b && true) (or-true (eqb (f x) 0))
  distinct_more (y ∷ l) x =
      ap (λ b. (eqb (f y) 0 || not b) && distinct (map f (l ++ (x ∷ [])))) (any_more (eqb (f y)) l x)
      ∙ ap (λ b. (eqb (f y) 0 || not (any (eqb (f y)) (map f l) || eqb (f y) (f x))) && b) (distinct_more l x)
      ∙ go (eqb (f y) 0) (any (eqb (f y)) (map f l)) (eqb (f y) (f x)) (distinct (map f l)) (all (λ y. apart (f x) (f y)) l)
      ∙ ap (λ b. ((eqb (f y) 0 || not (any (eqb (f y)) (map f l))) && distinct (map f l)) && (b && all (λ y. apart (f x) (f y)) l)) (apart_even (f y) (f x))
    where
      go : (z a e d m : Bool) → ((z || not (a || e)) && (d && m)) ≡ (((z || not a) && d) && ((z || not e) && m))
      go true a e d m = and_and true d m
      go false true e d m = refl
      go false false true true m = refl
      go false false true false m = refl
      go false false false d m = refl

  pub distinct_grows : Grows (λ l. distinct (map f l)) (λ l x. all (λ y. apart (f x) (f y)) l)
  unfolding distinct
  distinct_grows = record { none = refl; one_more = distinct_more }

-- ---- a loop over the records below record n: at record j, x, whose test gives b, it stops or goes on

module _ {A : Type 0} (f : A → Bool) (d : A) (l : List A) where
  grown : (j : ℕ) → j < length l → all f (take (suc j) l) ≡ (all f (take j l) && f (get_or l j d))
  grown j h = ap (all f) (take-suc l j d h) ∙ all_more f (take j l) (get_or l j d)

  stays : (j k n : ℕ) → n ≡ j + k → n ≤ length l → all f (take j l) ≡ false → all f (take n l) ≡ false
  stays j zero n e h q = let z : n ≡ j = omega arith in ap (λ m. all f (take m l)) z ∙ q
  stays j (suc k) n e h q =
      let z : n ≡ suc (j + k) = omega arith in
      ap (λ m. all f (take m l)) z ∙ grown (j + k) (omega arith) ∙ ap (λ b. b && f (get_or l (j + k) d)) (stays j k (j + k) refl (omega arith) q)

  module _ (j : ℕ) {n : ℕ} {x : A} {b : Bool} (w : j ≤ n) (kept : all f (take j l) ≡ true) (h : j < n) (room : n ≤ length l)
      (at : x ≡ get_or l j d) (t : b ≡ f x) where
    told : all f (take (suc j) l) ≡ b
    told = grown j (omega arith) ∙ ap (λ k. k && f (get_or l j d)) kept ∙ ap f (sym at) ∙ sym t

    pub below_fails : not b ≡ true → false ≡ all f (take n l)
    below_fails e =
        let q : all f (take (suc j) l) ≡ false = told ∙ not-true b e in
        elim (dec_lt (suc j) n) [
          | yes k ↦ sym (stays (suc j) (n - suc j) n (omega arith) room q)
          | no k ↦ let z : n ≡ suc j = omega arith in sym (ap (λ m. all f (take m l)) z ∙ q)
        ]

    pub below_goes_on : not b ≡ false → all f (take (j + 1) l) ≡ true
    below_goes_on e = ap (λ k. all f (take k l)) (add-one j) ∙ told ∙ not-false b e

  pub below_passes : (j : ℕ) {n : ℕ} → j ≤ n → all f (take j l) ≡ true → n ≤ j → true ≡ all f (take n l)
  below_passes j {n} a kept b = let z : n ≡ j = omega arith in sym (ap (λ m. all f (take m l)) z ∙ kept)
