-- Where the first slot that passes a test stands, what a loop keeps of it, and what it is worth. Assumes nothing.
use Prim.Native.Nat.{ℕ, suc, ◌+◌, ◌≤◌, ◌<◌}
use mathlib.Core.{Bool.{Bool, true, false, cond, ◌||◌}, List.{List, [], ◌∷◌}, Path.{◌≡◌, refl, sym, ap, subst, ◌∙◌}}
use native.{Mathlib.Nat.zero-add, Mathlib.Omega.arith}
use borrow.Author.Tests.{lt-ltb, le-ltb}
use lib.{Dec.{T, ltb, leb-suc-zero, leb-suc-suc}, ListN.{length, get_or, drop, drop_of_length-le}}
use Rattle.rules.specs.Words.{any, find, first_place}
use Rattle.laws.proofs.{Accepts.T_true, Loops.rest, Slots.any_at}

module _ {A : Type 0} (t : A → Bool) (d : A) (l : List A) (i : ℕ) where
  here : i < length l → t (get_or l i d) ≡ true → first_place t (drop i l) ≡ 0
  unfolding first_place
  here h e = rw (rest d l i h, e)

  later : i < length l → t (get_or l i d) ≡ false → first_place t (drop i l) ≡ suc (first_place t (drop (i + 1) l))
  unfolding first_place
  later h e = rw (rest d l i h, e)

  past : length l ≤ i → first_place t (drop i l) ≡ 0
  unfolding first_place
  past h = rw (drop_of_length-le l h)

  pub place_here : first_place t l ≡ i + first_place t (drop i l) → i < length l → t (get_or l i d) ≡ true → i ≡ first_place t l
  place_here inv h e = omega (arith, here h e)

  pub place_next : first_place t l ≡ i + first_place t (drop i l) → i < length l → t (get_or l i d) ≡ false
      → first_place t l ≡ i + 1 + first_place t (drop (i + 1) l)
  place_next inv h e = omega (arith, later h e)

  -- the same of slot j, which is the next
  pub place_past : {j : ℕ} → i + 1 ≡ j → first_place t l ≡ i + first_place t (drop i l) → i < length l → t (get_or l i d) ≡ false
      → first_place t l ≡ j + first_place t (drop j l)
  place_past e inv h f = subst (λ n. first_place t l ≡ n + first_place t (drop n l)) e (place_next inv h f)

  pub place_end : first_place t l ≡ i + first_place t (drop i l) → length l ≤ i → i ≡ first_place t l
  place_end inv h = omega (arith, past h)

  -- a loop from the end down to slot i: k is the place that it kept from slot j on
  pub place_back_end : length l ≤ i → i ≡ i + first_place t (drop i l)
  place_back_end h = omega (arith, past h)

  pub place_back_here : i < length l → t (get_or l i d) ≡ true → i ≡ i + first_place t (drop i l)
  place_back_here h e = omega (arith, here h e)

  pub place_back : {j k : ℕ} → k ≡ j + first_place t (drop j l) → i + 1 ≡ j → i < length l → t (get_or l i d) ≡ false → k ≡ i + first_place t (drop i l)
  place_back {j} {k} inv q h e =
      let inv' : k ≡ i + 1 + first_place t (drop (i + 1) l) = subst (λ n. k ≡ n + first_place t (drop n l)) (sym q) inv in
      omega (arith, later h e)

  pub place_back_done : {k : ℕ} → k ≡ i + first_place t (drop i l) → i ≤ 0 → k ≡ first_place t l
  place_back_done {k} inv h = let z : i ≡ 0 = omega arith in subst (λ n. k ≡ n + first_place t (drop n l)) z inv ∙ zero-add _

  -- a slot that passes
  pub somewhere : i < length l → t (get_or l i d) ≡ true → any t l ≡ true
  somewhere h e = T_true (any t l) (any_at t d l i h (subst T (sym e) tt))

-- the first slot that passes is a slot exactly if some slot passes, and it has what `find` finds
module _ {A : Type 0} (t : A → Bool) where
  place_any : (l : List A) → any t l ≡ ltb (first_place t l) (length l)
  unfolding any first_place
  place_any [] = sym (leb-suc-zero 0)
  place_any (x ∷ l) = go (t x) (place_any l)
    where
      go : (b : Bool) → any t l ≡ ltb (first_place t l) (length l) → (b || any t l) ≡ ltb (cond b 0 (suc (first_place t l))) (suc (length l))
      go true h = sym (lt-ltb 0 (suc (length l)) (omega arith))
      go false h = h ∙ sym (leb-suc-suc (suc (first_place t l)) (length l))

  place_find : (d : A) (l : List A) → find t d l ≡ get_or l (first_place t l) d
  unfolding find first_place
  place_find d [] = refl
  place_find d (x ∷ l) = go (t x) (place_find d l)
    where
      go : (b : Bool) → find t d l ≡ get_or l (first_place t l) d → cond b x (find t d l) ≡ get_or (x ∷ l) (cond b 0 (suc (first_place t l))) d
      go true h = refl
      go false h = h

  -- of n slots, i is the first that passes
  module _ {i n : ℕ} (l : List A) (first : i ≡ first_place t l) (slots : n ≡ length l) where
    pub place_none : n ≤ i → any t l ≡ false
    place_none h = place_any l ∙ le-ltb (first_place t l) (length l) (omega arith)

    pub place_some : i < n → any t l ≡ true
    place_some h = place_any l ∙ lt-ltb (first_place t l) (length l) (omega arith)

    pub place_told : ltb i n ≡ any t l
    place_told = ap (λ k. ltb k n) first ∙ ap (ltb (first_place t l)) slots ∙ sym (place_any l)

    pub place_named : (d : A) {x : A} → x ≡ get_or l i d → x ≡ find t d l
    place_named d e = e ∙ ap (λ k. get_or l k d) first ∙ sym (place_find d l)
