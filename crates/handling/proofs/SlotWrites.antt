-- The slot that a search found: what stands there, and that a write to it is what the rules do to all slots. Assumes nothing.
use Prim.Native.Nat.{ℕ, zero, suc, ◌<◌}
use mathlib.Core.{Bool.{Bool, true, false, cond, not}, List.{List, [], ◌∷◌, map}, Path.{◌≡◌, sym, ap, ◌∙◌, subst}}
use native.{Mathlib.Nat.{le_of_suc-le-suc, not-suc-le-zero}, Mathlib.Omega.arith}
use lib.{Dec.{T, eqb, eqb→eq}, ListN.{length, get_or, set}}
use Rattle.records.specs.{Phone.{decode, encode}, Frame.Framed}
use Rattle.rules.specs.{Words.{change, find, fill, distinct, first_place}, AcceptedImage.AcceptedImage}
use Rattle.laws.proofs.{Slots.{set_is, fill_is, find_is}, Tables.Part}

module _ {A : Type 0} (t : A → Bool) (d : A) where
  passes : (l : List A) → first_place t l < length l → T (t (get_or l (first_place t l) d))
  unfolding first_place
  passes [] h = absurd (not-suc-le-zero h)
  passes (x ∷ l) h = go (t x) (λ b. b) (passes l) h
    where
      n : ℕ
      n = first_place t l

      go : (b : Bool) → (T b → T (t x)) → (n < length l → T (t (get_or l n d))) → cond b 0 (suc n) < suc (length l)
          → T (t (get_or (x ∷ l) (cond b 0 (suc n)) d))
      go true f r h = f tt
      go false f r h = r (le_of_suc-le-suc h)

  fails_before : (l : List A) (j : ℕ) → j < first_place t l → T (not (t (get_or l j d)))
  unfolding first_place
  fails_before [] j h = absurd (not-suc-le-zero h)
  fails_before (x ∷ l) j h = go (t x) (λ b. b) (fails_before l) j h
    where
      n : ℕ
      n = first_place t l

      go : (b : Bool) → (T (not b) → T (not (t x))) → ((j : ℕ) → j < n → T (not (t (get_or l j d))))
          → (j : ℕ) → j < cond b 0 (suc n) → T (not (t (get_or (x ∷ l) j d)))
      go true f r j h = absurd (not-suc-le-zero h)
      go false f r zero h = f tt
      go false f r (suc j) h = r j (le_of_suc-le-suc h)

  module _ (l : List A) (k : ℕ) (e : k ≡ first_place t l) (h : k < length l) where
    pub passes_there : T (t (get_or l k d))
    passes_there = subst (λ n. T (t (get_or l n d))) (sym e) (passes l (omega arith))

    fill_there : (a : A) → fill t a l ≡ set l k a
    fill_there a = fill_is t a d l k h passes_there (λ j m. fails_before l j (omega arith))

    pub find_there : find t d l ≡ get_or l k d
    find_there = find_is t d l k h passes_there (λ j m. fails_before l j (omega arith))

change_there : {A : Type 0} (i : A → ℕ) (n : ℕ) (f : A → A) (d : A) (l : List A) (k : ℕ)
    → k ≡ first_place (λ x. eqb (i x) n) l → k < length l → 0 < n → T (distinct (map i l)) → change (λ x. eqb (i x) n) f l ≡ set l k (f (get_or l k d))
change_there i n f d l k e h nz u =
    set_is i n f d l k h (eqb→eq (i (get_or l k d)) n (passes_there (λ x. eqb (i x) n) d l k e h)) (λ z. omega arith) u

-- ---- in an image

module _ {A : Type 0} (k : Part A) {s s' : List ℕ} {slot : ℕ} where
  -- y is written in the slot of id n, where f changes what stands there to y
  pub write_is_change : (n : ℕ) (f : A → A) {y : A} → AcceptedImage s → slot ≡ first_place (λ x. eqb (k.id x) n) (k.slots (decode s))
      → slot < length (k.slots (decode s)) → 0 < n → y ≡ f (get_or (k.slots (decode s)) slot k.none)
      → s' ≡ encode (k.put (set (k.slots (decode s)) slot y) (decode s))
      → s' ≡ encode (k.put (change (λ x. eqb (k.id x) n) f (k.slots (decode s))) (decode s))
  write_is_change n f a e h nz q w =
      w ∙ ap (λ x. encode (k.put (set (k.slots (decode s)) slot x) (decode s))) q
      ∙ ap (λ l. encode (k.put l (decode s))) (sym (change_there k.id n f k.none (k.slots (decode s)) slot e h nz (k.ids_distinct s a)))

  -- y is written in the lowest free slot
  pub write_is_fill : (y : A) → Framed s → slot ≡ first_place (λ x. eqb (k.id x) 0) (k.slots (decode s)) → slot < length (k.slots (decode s))
      → s' ≡ encode (k.put (set (k.slots (decode s)) slot y) (decode s))
      → s' ≡ encode (k.put (fill (λ x. eqb (k.id x) 0) y (k.slots (decode s))) (decode s))
  write_is_fill y g e h w =
      w ∙ ap (λ l. encode (k.put l (decode s))) (sym (fill_there (λ x. eqb (k.id x) 0) k.none (k.slots (decode s)) slot e h y))
