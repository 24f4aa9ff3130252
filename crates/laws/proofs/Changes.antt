-- Slots changed where a test holds, and a slot filled: both ways of the test, and how many slots there are. Assumes nothing.
use Prim.Native.Nat.{ℕ, zero, suc}
use mathlib.Core.{Bool.{Bool, true, false, cond, not}, List.{List, [], ◌∷◌, map}, Path.{◌≡◌, refl, ap}}
use lib.{Dec.T, ListN.{length, get_or}}
use Rattle.rules.specs.Words.{at, change, fill}

-- a changed element beside the element before
pub at_cases : {A : Type 0} (P : A → A → Type 0) (t : A → Bool) (f : A → A) (x : A) → (T (t x) → P (f x) x) → (T (not (t x)) → P x x) → P (at t f x) x
at_cases {A} P t f x h k = go (t x) h k
  where
    go : (b : Bool) → (T b → P (f x) x) → (T (not b) → P x x) → P (cond b (f x) x) x
    go true h k = h tt
    go false h k = k tt

pub length_fill : {A : Type 0} (t : A → Bool) (a : A) (l : List A) → length (fill t a l) ≡ length l
unfolding fill
length_fill t a [] = refl
length_fill t a (x ∷ l) = go (t x) (length_fill t a l)
  where
    go : (b : Bool) → length (fill t a l) ≡ length l → length (cond b (a ∷ l) (x ∷ fill t a l)) ≡ suc (length l)
    go true e = refl
    go false e = ap suc e

-- ---- the slots by their places: a relation that every slot has to itself and to what it becomes

pub map_at : {A : Type 0} (R : A → A → Type 0) (f : A → A) (d : A) (l : List A) → R d d → ((x : A) → R x (f x))
    → (i : ℕ) → R (get_or l i d) (get_or (map f l) i d)
map_at R f d [] n h i = n
map_at R f d (x ∷ l) n h zero = h x
map_at R f d (x ∷ l) n h (suc i) = map_at R f d l n h i

pub change_at : {A : Type 0} (R : A → A → Type 0) (t : A → Bool) (f : A → A) (d : A) (l : List A)
    → ((x : A) → R x x) → ((x : A) → T (t x) → R x (f x)) → (i : ℕ) → R (get_or l i d) (get_or (change t f l) i d)
change_at R t f d l n h = map_at R (at t f) d l (n d) (λ x. at_cases (λ lo hi. R hi lo) t f x (h x) (λ k. n x))

pub fill_at : {A : Type 0} (R : A → A → Type 0) (t : A → Bool) (a d : A) (l : List A)
    → ((x : A) → R x x) → ((x : A) → T (t x) → R x a) → (i : ℕ) → R (get_or l i d) (get_or (fill t a l) i d)
unfolding fill
fill_at R t a d [] n h i = n d
fill_at {A} R t a d (x ∷ l) n h i = go (t x) (h x) i (fill_at R t a d l n h)
  where
    go : (b : Bool) → (T b → R x a) → (i : ℕ) → ((i : ℕ) → R (get_or l i d) (get_or (fill t a l) i d))
        → R (get_or (x ∷ l) i d) (get_or (cond b (a ∷ l) (x ∷ fill t a l)) i d)
    go true k zero r = k tt
    go true k (suc i) r = n (get_or l i d)
    go false k zero r = n x
    go false k (suc i) r = r i
