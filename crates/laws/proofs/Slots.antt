-- The rules speak of every slot; code finds one slot and writes it. These say that it comes to the same. Assumes nothing.
use Prim.Native.Nat.{ℕ, zero, suc, ◌<◌}
use mathlib.Core.{Bool.{Bool, true, false, cond, not, ◌||◌}, List.{List, [], ◌∷◌, map, Memᴰ}, Logic.◌≢◌}
use mathlib.Core.Path.{◌≡◌, refl, sym, ap, ◌∙◌}
use native.{Mathlib.Omega.arith, Mathlib.Nat.{le_of_suc-le-suc, not-suc-le-zero}}
use lib.{Dec.{T, eqb}, ListN.{get_or, set, length}}
use Rattle.rules.specs.Words.{any, at, fill, find, distinct}
use Rattle.laws.proofs.{Tests.{eq→eqb, ne→neqb, or_i, or_j}, Distinct.{head_alone, tail_distinct}}

module _ {A : Type 0} where
  pub mem_at : (l : List A) (k : ℕ) (d : A) → k < length l → Memᴰ (get_or l k d) l
  mem_at [] k d h = absurd (not-suc-le-zero h)
  mem_at (x ∷ l) zero d h = Memᴰ.head refl
  mem_at (x ∷ l) (suc k) d h = Memᴰ.tail (mem_at l k d (le_of_suc-le-suc h))

  -- what holds of every element and of what stands past the end holds at every place
  pub at_each : (P : A → Type 0) (d : A) (l : List A) → P d → ((x : A) → Memᴰ x l → P x) → (i : ℕ) → P (get_or l i d)
  at_each P d [] z h i = z
  at_each P d (x ∷ l) z h zero = h x (Memᴰ.head refl)
  at_each P d (x ∷ l) z h (suc i) = at_each P d l z (λ y m. h y (Memᴰ.tail m)) i

  -- a test that one slot alone passes: to change every slot that passes is to change that one
  set_miss : (t : A → Bool) (f : A → A) (l : List A) → ((x : A) → Memᴰ x l → T (not (t x))) → map (at t f) l ≡ l
  set_miss t f [] h = refl
  set_miss t f (x ∷ l) h = let r : map (at t f) l ≡ l = set_miss t f l (λ y m. h y (Memᴰ.tail m)) in go (t x) (h x (Memᴰ.head refl)) r
    where
      go : (b : Bool) → T (not b) → map (at t f) l ≡ l → ◌≡◌ {A = List A} (cond b (f x) x ∷ map (at t f) l) (x ∷ l)
      go true h r = absurd h
      go false h r = ap (λ y. x ∷ y) r

  pub set_is : (i : A → ℕ) (n : ℕ) (f : A → A) (d : A) (l : List A) (k : ℕ) → k < length l → i (get_or l k d) ≡ n → n ≢ 0 → T (distinct (map i l))
      → map (at (λ x. eqb (i x) n) f) l ≡ set l k (f (get_or l k d))
  set_is i n f d [] k h e nz u = absurd (not-suc-le-zero h)
  set_is i n f d (x ∷ l) zero h e nz u =
      go (eqb (i x) n) (eq→eqb (i x) n e)
      (set_miss (λ x. eqb (i x) n) f l (λ y m. ne→neqb (i y) n (λ q. head_alone i x l u y m (λ z. nz (sym e ∙ z)) (e ∙ sym q))))
    where
      go : (b : Bool) → T b → map (at (λ x. eqb (i x) n) f) l ≡ l → ◌≡◌ {A = List A} (cond b (f x) x ∷ map (at (λ x. eqb (i x) n) f) l) (f x ∷ l)
      go true h r = ap (λ y. f x ∷ y) r
      go false h r = absurd h
  set_is i n f d (x ∷ l) (suc k) h e nz u =
      go (eqb (i x) n)
      (ne→neqb (i x) n (λ q. head_alone i x l u (get_or l k d) (mem_at l k d (le_of_suc-le-suc h)) (λ z. nz (sym q ∙ z)) (q ∙ sym e)))
      (set_is i n f d l k (le_of_suc-le-suc h) e nz (tail_distinct i x l u))
    where
      go : (b : Bool) → T (not b) → map (at (λ x. eqb (i x) n) f) l ≡ set l k (f (get_or l k d))
          → ◌≡◌ {A = List A} (cond b (f x) x ∷ map (at (λ x. eqb (i x) n) f) l) (x ∷ set l k (f (get_or l k d)))
      go true h r = absurd h
      go false h r = ap (λ y. x ∷ y) r

  -- the first that passes
  pub fill_is : (t : A → Bool) (a d : A) (l : List A) (k : ℕ) → k < length l → T (t (get_or l k d)) → ((j : ℕ) → j < k → T (not (t (get_or l j d))))
      → fill t a l ≡ set l k a
  unfolding fill
  fill_is t a d [] k h p q = absurd (not-suc-le-zero h)
  fill_is t a d (x ∷ l) zero h p q = go (t x) p
    where
      go : (b : Bool) → T b → cond b (a ∷ l) (x ∷ fill t a l) ≡ a ∷ l
      go true h = refl
      go false h = absurd h
  fill_is t a d (x ∷ l) (suc k) h p q = go (t x) (q 0 (omega arith)) (fill_is t a d l k (le_of_suc-le-suc h) p (λ j s. q (suc j) (omega arith)))
    where
      go : (b : Bool) → T (not b) → fill t a l ≡ set l k a → cond b (a ∷ l) (x ∷ fill t a l) ≡ x ∷ set l k a
      go true h r = absurd h
      go false h r = ap (λ y. x ∷ y) r

  pub find_is : (t : A → Bool) (d : A) (l : List A) (k : ℕ) → k < length l → T (t (get_or l k d)) → ((j : ℕ) → j < k → T (not (t (get_or l j d))))
      → find t d l ≡ get_or l k d
  unfolding find
  find_is t d [] k h p q = absurd (not-suc-le-zero h)
  find_is t d (x ∷ l) zero h p q = go (t x) p
    where
      go : (b : Bool) → T b → cond b x (find t d l) ≡ x
      go true h = refl
      go false h = absurd h
  find_is t d (x ∷ l) (suc k) h p q = go (t x) (q 0 (omega arith)) (find_is t d l k (le_of_suc-le-suc h) p (λ j s. q (suc j) (omega arith)))
    where
      go : (b : Bool) → T (not b) → find t d l ≡ get_or l k d → cond b x (find t d l) ≡ get_or l k d
      go true h r = absurd h
      go false h r = r

  -- `any` by places
  pub any_at : (t : A → Bool) (d : A) (l : List A) (k : ℕ) → k < length l → T (t (get_or l k d)) → T (any t l)
  unfolding any
  any_at t d [] k h p = absurd (not-suc-le-zero h)
  any_at t d (x ∷ l) zero h p = or_i (t x) (any t l) p
  any_at t d (x ∷ l) (suc k) h p = or_j (t x) (any t l) (any_at t d l k (le_of_suc-le-suc h) p)

  any_not : (t : A → Bool) (d : A) (l : List A) → ((k : ℕ) → k < length l → T (not (t (get_or l k d)))) → any t l ≡ false
  unfolding any
  any_not t d [] h = refl
  any_not t d (x ∷ l) h = go (t x) (h 0 (omega arith)) (any_not t d l (λ k s. h (suc k) (omega arith)))
    where
      go : (b : Bool) → T (not b) → any t l ≡ false → (b || any t l) ≡ false
      go true h r = absurd h
      go false h r = r
