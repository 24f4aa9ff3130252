-- What a loop over slots keeps: `any`, `all` and `find` of what is left of the list, from slot i on. Assumes nothing.
use Prim.Native.Nat.{ℕ, ◌+◌, ◌≤◌, ◌<◌}
use mathlib.Core.{Bool.{Bool, true, false, not, ◌||◌}, List.{List, ◌∷◌}, Path.{◌≡◌, sym, ap, subst, ◌∙◌}}
use native.{Mathlib.Numerals.add-one, Mathlib.Omega.arith}
use lib.{ListN.{length, get_or, drop, drop_of_length-le}, Seq.drop-cons}
use borrow.Author.Tests.{not-true, not-false}
use Rattle.rules.specs.Words.{any, all, find}

module _ {A : Type 0} (d : A) (l : List A) (i : ℕ) where
  -- what is left of the list, its first slot apart
  pub rest : i < length l → drop i l ≡ get_or l i d ∷ drop (i + 1) l
  rest h = drop-cons l i d h ∙ ap (λ n. get_or l i d ∷ drop n l) (sym (add-one i))

  module _ (f : A → Bool) where
    pub any_rest : i < length l → any f (drop i l) ≡ (f (get_or l i d) || any f (drop (i + 1) l))
    unfolding any
    any_rest h = ap (any f) (rest h)

    pub any_here : i < length l → f (get_or l i d) ≡ true → any f (drop i l) ≡ true
    unfolding any
    any_here h e = rw (rest h, e)

    pub any_next : i < length l → f (get_or l i d) ≡ false → any f (drop i l) ≡ any f (drop (i + 1) l)
    unfolding any
    any_next h e = rw (rest h, e)

    pub any_end : length l ≤ i → any f (drop i l) ≡ false
    unfolding any
    any_end h = rw (drop_of_length-le l h)

    -- a loop from the end down to slot i: b is what it kept from slot j on, v what this slot gives
    pub any_back : (b v : Bool) {j : ℕ} → b ≡ any f (drop j l) → i + 1 ≡ j → i < length l → v ≡ f (get_or l i d) → (v || b) ≡ any f (drop i l)
    unfolding any
    any_back b v q e h t = rw (rest h, e, sym q, sym t)

    pub any_back_done : {b : Bool} → b ≡ any f (drop i l) → i ≤ 0 → b ≡ any f l
    any_back_done {b} q h = let z : i ≡ 0 = omega arith in subst (λ n. b ≡ any f (drop n l)) z q

    all_here : i < length l → f (get_or l i d) ≡ false → all f (drop i l) ≡ false
    unfolding all
    all_here h e = rw (rest h, e)

    all_next : i < length l → f (get_or l i d) ≡ true → all f (drop i l) ≡ all f (drop (i + 1) l)
    unfolding all
    all_next h e = rw (rest h, e)

    all_end : length l ≤ i → all f (drop i l) ≡ true
    unfolding all
    all_end h = rw (drop_of_length-le l h)

    pub find_here : i < length l → f (get_or l i d) ≡ true → find f d (drop i l) ≡ get_or l i d
    unfolding find
    find_here h e = rw (rest h, e)

    pub find_next : i < length l → f (get_or l i d) ≡ false → find f d (drop i l) ≡ find f d (drop (i + 1) l)
    unfolding find
    find_next h e = rw (rest h, e)

    pub find_end : length l ≤ i → find f d (drop i l) ≡ d
    unfolding find
    find_end h = rw (drop_of_length-le l h)

-- ---- what a loop answers: w is what is asked, x the slot that is looked at, and b what its test gives

module _ {A : Type 0} (d : A) (l : List A) (i : ℕ) where
  module _ (f : A → Bool) (w : Bool) where
    pub all_stops : {x : A} {b : Bool} → all f (drop i l) ≡ w → i < length l → x ≡ get_or l i d → b ≡ f x → not b ≡ true → false ≡ w
    all_stops {x} {b} inv h e t n = sym (all_here d l i f h (ap f (sym e) ∙ sym t ∙ not-true b n)) ∙ inv

    pub all_goes_on : {x : A} {b : Bool} → all f (drop i l) ≡ w → i < length l → x ≡ get_or l i d → b ≡ f x → not b ≡ false → all f (drop (i + 1) l) ≡ w
    all_goes_on {x} {b} inv h e t n = sym (all_next d l i f h (ap f (sym e) ∙ sym t ∙ not-false b n)) ∙ inv

    pub all_passes : all f (drop i l) ≡ w → length l ≤ i → true ≡ w
    all_passes inv h = sym (all_end d l i f h) ∙ inv

    pub any_stops : {x : A} → any f (drop i l) ≡ w → i < length l → x ≡ get_or l i d → f x ≡ true → true ≡ w
    any_stops inv h e t = sym (any_here d l i f h (ap f (sym e) ∙ t)) ∙ inv

    pub any_goes_on : {x : A} → any f (drop i l) ≡ w → i < length l → x ≡ get_or l i d → f x ≡ false → any f (drop (i + 1) l) ≡ w
    any_goes_on inv h e t = sym (any_next d l i f h (ap f (sym e) ∙ t)) ∙ inv

    pub any_fails : any f (drop i l) ≡ w → length l ≤ i → false ≡ w
    any_fails inv h = sym (any_end d l i f h) ∙ inv
