-- Words with a bit a slot, of any width: how one is built, how a loop goes from bit to bit, and what the operations on them are. Assumes nothing.
use Prim.Native.Nat.{ℕ, zero, suc, ◌+◌, ◌-◌, ◌*◌, ◌/◌, ◌%◌, ◌^◌, ◌≤◌, ◌<◌, min, max}
use mathlib.Core.{Bool.{Bool, true, false, cond, not, ◌&&◌, ◌||◌}, List.{List, [], ◌∷◌}, Logic.◌≢◌, Path.{◌≡◌, refl, sym, ap, ap₂, ◌∙◌, subst}}
use native.{Mathlib.Nat.{pow-suc, div-lt_iff_lt-mul, zero-lt-suc, zero-mul, one-mul, add-mul, mul_assoc, mul_comm}, Mathlib.Numerals.add-one}
use native.Mathlib.Omega.{arith}
use lib.{Dec.eqb, ListN.{length, get_or, drop, drop_of_length-le}, Seq.drop-cons, Pow.{pow_pos}}
use lib.{Bits.{bit_and, bit_or, bit_xor, differ, and_step, or_step, xor_step, and_self}, Count.{count_trailing_zeros, under}}
use Rattle.bits.specs.{Bits.set_bit, SlotWord.{word, any_of, keep, less_lowest}}
use Rattle.bits.proofs.BitLaws.{put_above}

half_lt : (w k : ℕ) → w < 2 ^ suc k → w / 2 < 2 ^ k
half_lt w k h = (div-lt_iff_lt-mul (zero-lt-suc 1)).1 (subst (λ (x : ℕ). w < x) (pow-suc 2 k) h)

-- ---- one bit more below

last_half : (a : ℕ) (b : Bool) → (a * 2 + cond b 1 0) / 2 ≡ a
last_half a true = omega arith
last_half a false = omega arith

last_bit : (a : ℕ) (b : Bool) → (a * 2 + cond b 1 0) % 2 ≡ cond b 1 0
last_bit a true = omega arith
last_bit a false = omega arith

last_odd : (a : ℕ) (b : Bool) → eqb ((a * 2 + cond b 1 0) % 2) 1 ≡ b
last_odd a true = rw (last_bit a true)
last_odd a false = rw (last_bit a false)

-- ---- the lowest bit

pub rest_of : (d w : ℕ) → 0 < w → w < 2 ^ d → bit_and w (w - 1) ≡ w - 2 ^ count_trailing_zeros d w
unfolding count_trailing_zeros
rest_of zero w p h = absurd (omega arith)
rest_of (suc d) w p h = and_step w (w - 1) ∙ go (λ k. rest_of d (w / 2) k (half_lt w d h)) (w % 2) refl
  where
    go : (0 < w / 2 → bit_and (w / 2) (w / 2 - 1) ≡ w / 2 - 2 ^ count_trailing_zeros d (w / 2)) → (r : ℕ) → w % 2 ≡ r
        → bit_and (w / 2) ((w - 1) / 2) * 2 + min (w % 2) ((w - 1) % 2) ≡ w - 2 ^ under r (count_trailing_zeros d (w / 2))
    go below zero e =
        let t = count_trailing_zeros d (w / 2) in
        let ih : bit_and (w / 2) (w / 2 - 1) ≡ w / 2 - 2 ^ t = below (omega arith) in
        ap₂ (λ (x y : ℕ). bit_and (w / 2) x * 2 + min y ((w - 1) % 2)) (omega arith) e
        ∙ ap (λ (x : ℕ). x * 2 + min 0 ((w - 1) % 2)) ih
        ∙ omega (arith, pow-suc 2 t)
    go below (suc zero) e =
        ap₂ (λ (x y : ℕ). bit_and (w / 2) x * 2 + min (w % 2) y) (omega arith) (omega arith)
        ∙ ap (λ (x : ℕ). x * 2 + min (w % 2) 0) (and_self (w / 2))
        ∙ omega arith
    go below (suc (suc r)) e = absurd (omega arith)

lowest_below : (d n w : ℕ) → n ≤ d → 0 < w → w < 2 ^ n → count_trailing_zeros d w < n
unfolding count_trailing_zeros
lowest_below d zero w l p h = absurd (omega arith)
lowest_below zero (suc n) w l p h = absurd (omega arith)
lowest_below (suc d) (suc n) w l p h = go (λ k. lowest_below d n (w / 2) (omega arith) k (half_lt w n h)) (w % 2) refl
  where
    go : (0 < w / 2 → count_trailing_zeros d (w / 2) < n) → (r : ℕ) → w % 2 ≡ r → under r (count_trailing_zeros d (w / 2)) < suc n
    go below zero e = let ih = below (omega arith) in omega arith
    go below (suc r) e = omega arith

pub falls : (d w : ℕ) → 0 < w → w - 2 ^ count_trailing_zeros d w < w
falls d w p = omega (arith, pow_pos (count_trailing_zeros d w))

-- ---- a loop from bit to bit

module _ {A : Type 0} (f : A → Bool) where
  pub any_nothing : (l : List A) → any_of 0 f l ≡ false
  unfolding any_of
  any_nothing [] = refl
  any_nothing (x ∷ l) = any_nothing l

  pub keep_lt : (w : ℕ) (l : List A) → keep w f l < 2 ^ length l
  unfolding keep
  keep_lt w [] = omega arith
  keep_lt w (x ∷ l) = go (eqb (w % 2) 1 && f x) (keep_lt (w / 2) l)
    where
      go : (b : Bool) → keep (w / 2) f l < 2 ^ length l → keep (w / 2) f l * 2 + cond b 1 0 < 2 ^ suc (length l)
      go true ih = omega (arith, pow-suc 2 (length l))
      go false ih = omega (arith, pow-suc 2 (length l))

  keep_nothing : (l : List A) → keep 0 f l ≡ 0
  unfolding keep
  keep_nothing [] = refl
  keep_nothing (x ∷ l) = rw (keep_nothing l)

  pub keep_none : ((x : A) → f x ≡ false) → (w : ℕ) (l : List A) → keep w f l ≡ 0
  unfolding keep
  keep_none h w [] = refl
  keep_none h w (x ∷ l) = rw (keep_none h (w / 2) l, h x) (go (eqb (w % 2) 1))
    where
      go : (b : Bool) → 0 * 2 + cond (b && false) 1 0 ≡ 0
      go true = refl
      go false = refl

module _ {A : Type 0} (f : A → Bool) (z : A) where
  any_lowest : (d : ℕ) (l : List A) (w : ℕ) → length l ≤ d → 0 < w → w < 2 ^ length l
      → any_of w f l ≡ (f (get_or l (count_trailing_zeros d w) z) || any_of (w - 2 ^ count_trailing_zeros d w) f l)
  unfolding any_of count_trailing_zeros
  any_lowest d [] w n p h = absurd (omega arith)
  any_lowest zero (x ∷ l) w n p h = absurd (omega arith)
  any_lowest (suc d) (x ∷ l) w n p h = go (λ k. any_lowest d l (w / 2) (omega arith) k (half_lt w (length l) h)) (w % 2) refl
    where
      go : (0 < w / 2 → any_of (w / 2) f l ≡ (f (get_or l (count_trailing_zeros d (w / 2)) z) || any_of (w / 2 - 2 ^ count_trailing_zeros d (w / 2)) f l))
          → (r : ℕ) → w % 2 ≡ r
          → ((eqb (w % 2) 1 && f x) || any_of (w / 2) f l)
          ≡ (f (get_or (x ∷ l) (under r (count_trailing_zeros d (w / 2))) z)
          || ((eqb ((w - 2 ^ under r (count_trailing_zeros d (w / 2))) % 2) 1 && f x) || any_of ((w - 2 ^ under r (count_trailing_zeros d (w / 2))) / 2) f l))
      go below zero e =
          let t = count_trailing_zeros d (w / 2) in
          let ih = below (omega arith) in
          let m : (w - 2 ^ suc t) % 2 ≡ 0 = omega (arith, pow-suc 2 t) in
          let q : (w - 2 ^ suc t) / 2 ≡ w / 2 - 2 ^ t = omega (arith, pow-suc 2 t) in
          rw (e, m, q) ih
      go below (suc zero) e =
          let m : (w - 1) % 2 ≡ 0 = omega arith in
          let q : (w - 1) / 2 ≡ w / 2 = omega arith in
          rw (e, m, q)
      go below (suc (suc r)) e = absurd (omega arith)

  -- a bit taken, and the same bit one place higher
  double : (b : Bool) (p q k : ℕ) → q ≡ p * 2 → (cond b p 0 + k) * 2 + 0 ≡ cond b q 0 + (k * 2 + 0)
  double true p q k e = omega arith
  double false p q k e = omega arith

  keep_lowest : (d : ℕ) (l : List A) (w : ℕ) → length l ≤ d → 0 < w → w < 2 ^ length l
      → keep w f l ≡ cond (f (get_or l (count_trailing_zeros d w) z)) (2 ^ count_trailing_zeros d w) 0 + keep (w - 2 ^ count_trailing_zeros d w) f l
  unfolding keep count_trailing_zeros
  keep_lowest d [] w n p h = absurd (omega arith)
  keep_lowest zero (x ∷ l) w n p h = absurd (omega arith)
  keep_lowest (suc d) (x ∷ l) w n p h = go (λ k. keep_lowest d l (w / 2) (omega arith) k (half_lt w (length l) h)) (w % 2) refl
    where
      low : ℕ
      low = count_trailing_zeros d (w / 2)

      go : (0 < w / 2 → keep (w / 2) f l ≡ cond (f (get_or l low z)) (2 ^ low) 0 + keep (w / 2 - 2 ^ low) f l) → (r : ℕ) → w % 2 ≡ r
          → keep (w / 2) f l * 2 + cond (eqb (w % 2) 1 && f x) 1 0
          ≡ cond (f (get_or (x ∷ l) (under r low) z)) (2 ^ under r low) 0
          + (keep ((w - 2 ^ under r low) / 2) f l * 2 + cond (eqb ((w - 2 ^ under r low) % 2) 1 && f x) 1 0)
      go below zero e =
          let ih = below (omega arith) in
          let m : (w - 2 ^ suc low) % 2 ≡ 0 = omega (arith, pow-suc 2 low) in
          let q : (w - 2 ^ suc low) / 2 ≡ w / 2 - 2 ^ low = omega (arith, pow-suc 2 low) in
          rw (e, m, q, ih) (double (f (get_or l low z)) (2 ^ low) (2 ^ suc low) (keep (w / 2 - 2 ^ low) f l) (pow-suc 2 low))
      go below (suc zero) e =
          let m : (w - 1) % 2 ≡ 0 = omega arith in
          let q : (w - 1) / 2 ≡ w / 2 = omega arith in
          rw (e, m, q) (omega arith)
      go below (suc (suc r)) e = absurd (omega arith)

-- ---- the word of a test

module _ {A : Type 0} (f : A → Bool) where
  pub word_lt : (l : List A) → word f l < 2 ^ length l
  unfolding word
  word_lt [] = omega arith
  word_lt (x ∷ l) = go (f x) (word_lt l)
    where
      go : (b : Bool) → word f l < 2 ^ length l → word f l * 2 + cond b 1 0 < 2 ^ suc (length l)
      go true ih = omega (arith, pow-suc 2 (length l))
      go false ih = omega (arith, pow-suc 2 (length l))

  pub word_none : ((x : A) → f x ≡ false) → (l : List A) → word f l ≡ 0
  unfolding word
  word_none h [] = refl
  word_none h (x ∷ l) = rw (word_none h l, h x)

module _ {A : Type 0} (f g : A → Bool) where
  pub word_same : ((x : A) → f x ≡ g x) → (l : List A) → word f l ≡ word g l
  unfolding word
  word_same h [] = refl
  word_same h (x ∷ l) = rw (word_same h l, h x)

  pub keep_word : (l : List A) → keep (word f l) g l ≡ word (λ x. f x && g x) l
  unfolding word keep
  keep_word [] = refl
  keep_word (x ∷ l) = rw (last_half (word f l) (f x), last_odd (word f l) (f x), keep_word l)

  pub word_or : (l : List A) → bit_or (word f l) (word g l) ≡ word (λ x. f x || g x) l
  unfolding word
  word_or [] = refl
  word_or (x ∷ l) =
      or_step (word f l * 2 + cond (f x) 1 0) (word g l * 2 + cond (g x) 1 0)
      ∙ rw (last_half (word f l) (f x), last_half (word g l) (g x), last_bit (word f l) (f x), last_bit (word g l) (g x), word_or l) (go (f x) (g x))
    where
      go : (a b : Bool) → word (λ y. f y || g y) l * 2 + max (cond a 1 0) (cond b 1 0) ≡ word (λ y. f y || g y) l * 2 + cond (a || b) 1 0
      go true true = refl
      go true false = refl
      go false true = refl
      go false false = refl

  -- what passes is taken away
  pub word_less : (l : List A) → bit_xor (word f l) (word (λ x. f x && g x) l) ≡ word (λ x. f x && not (g x)) l
  unfolding word
  word_less [] = refl
  word_less (x ∷ l) =
      let k = word (λ y. f y && g y) l in
      xor_step (word f l * 2 + cond (f x) 1 0) (k * 2 + cond (f x && g x) 1 0)
      ∙ rw (last_half (word f l) (f x), last_half k (f x && g x), last_bit (word f l) (f x), last_bit k (f x && g x), word_less l) (go (f x) (g x))
    where
      go : (a b : Bool) → word (λ y. f y && not (g y)) l * 2 + differ (cond a 1 0) (cond (a && b) 1 0)
          ≡ word (λ y. f y && not (g y)) l * 2 + cond (a && not b) 1 0
      go true true = refl
      go true false = refl
      go false true = refl
      go false false = refl

-- ---- a word built slot by slot: the slots before i are in it, and what is left of the list makes the rest

module _ {A : Type 0} (f : A → Bool) (l : List A) where
  pub record Built (w i : ℕ) : Type 0 where
    pub below : w < 2 ^ i
    pub whole : w + word f (drop i l) * 2 ^ i ≡ word f l

  pub built_none : Built 0 0
  built_none = record { below = omega arith; whole = omega arith }

  pub built_all : {w i : ℕ} → Built w i → length l ≤ i → w ≡ word f l
  unfolding word
  built_all {w} {i} b h =
      let e : word f (drop i l) * 2 ^ i ≡ 0 * 2 ^ i = ap (λ r. word f r * 2 ^ i) (drop_of_length-le l h) in
      omega (arith, zero-mul (2 ^ i), b.whole)

  module _ (z : A) {w i : ℕ} (b : Built w i) (h : i < length l) where
    abbrev left : ℕ
    left = word f (drop (i + 1) l)

    more : 2 ^ (i + 1) ≡ 2 ^ i * 2
    more = ap (λ (n : ℕ). 2 ^ n) (add-one i) ∙ pow-suc 2 i

    -- slot i, and the slots after it
    apart : (v : Bool) → (left * 2 + cond v 1 0) * 2 ^ i ≡ cond v (2 ^ i) 0 + left * 2 ^ (i + 1)
    apart v = add-mul (left * 2) (cond v 1 0) (2 ^ i) ∙ go v
      where
        m : left * 2 * 2 ^ i ≡ left * 2 ^ (i + 1)
        m = mul_assoc left 2 (2 ^ i) ∙ ap (λ (k : ℕ). left * k) (mul_comm 2 (2 ^ i) ∙ sym more)

        go : (v : Bool) → left * 2 * 2 ^ i + cond v 1 0 * 2 ^ i ≡ cond v (2 ^ i) 0 + left * 2 ^ (i + 1)
        go true = omega (arith, m, one-mul (2 ^ i))
        go false = omega (arith, m, zero-mul (2 ^ i))

    next : (v : Bool) → f (get_or l i z) ≡ v → w + (cond v (2 ^ i) 0 + left * 2 ^ (i + 1)) ≡ word f l
    unfolding word
    next v e =
        ap (λ (k : ℕ). w + k) (sym (apart v))
        ∙ ap (λ x. w + (left * 2 + cond x 1 0) * 2 ^ i) (sym e)
        ∙ ap (λ r. w + word f r * 2 ^ i) (sym (drop-cons l i z h ∙ ap (λ n. get_or l i z ∷ drop n l) (sym (add-one i))))
        ∙ b.whole

    pub built_skips : f (get_or l i z) ≡ false → Built w (i + 1)
    built_skips e = record { below = omega (arith, b.below, more); whole = omega (arith, next false e) }

    pub built_takes : f (get_or l i z) ≡ true → {v : ℕ} → v ≡ set_bit w i → Built v (i + 1)
    built_takes e {v} g =
        let s : v ≡ w + 2 ^ i = g ∙ put_above w i b.below in
        record { below = omega (arith, b.below, more); whole = omega (arith, next true e) }

-- ---- as a loop goes: v is left, and t the number of its lowest bit

module _ {A : Type 0} (d : ℕ) (l : List A) (v t : ℕ) (h : length l ≤ d) (p : v ≢ 0) (b : v < 2 ^ length l) (e : t ≡ count_trailing_zeros d v) where
  pub at_lowest : t < length l
  at_lowest = subst (λ k. k < length l) (sym e) (lowest_below d (length l) v h (omega arith) b)

  module _ (f : A → Bool) (z x : A) (q : x ≡ get_or l t z) where
    at_slot : get_or l (count_trailing_zeros d v) z ≡ x
    at_slot = ap (λ k. get_or l k z) (sym e) ∙ sym q

    pub any_here : any_of v f l ≡ (f x || any_of (less_lowest d v) f l)
    any_here = any_lowest f z d l v h (omega arith) b ∙ ap (λ y. f y || any_of (less_lowest d v) f l) at_slot

    module _ (w : Bool) (inv : any_of v f l ≡ w) where
      pub any_stops : f x ≡ true → true ≡ w
      any_stops y = ap (λ b. b || any_of (less_lowest d v) f l) (sym y) ∙ sym any_here ∙ inv

      pub any_goes_on : (u : ℕ) → u ≡ less_lowest d v → f x ≡ false → any_of u f l ≡ w
      any_goes_on u g y = ap (λ k. any_of k f l) g ∙ ap (λ b. b || any_of (less_lowest d v) f l) (sym y) ∙ sym any_here ∙ inv

    -- what is kept of the word: a so far, and what is left of it
    module _ (a w : ℕ) (inv : a + keep v f l ≡ w) (u : ℕ) (g : u ≡ less_lowest d v) where
      keep_here : a + (cond (f x) (2 ^ t) 0 + keep u f l) ≡ w
      keep_here =
          ap₂ (λ (y k : ℕ). a + (cond (f x) (2 ^ y) 0 + keep k f l)) e g
          ∙ ap (λ y. a + (cond (f y) (2 ^ count_trailing_zeros d v) 0 + keep (less_lowest d v) f l)) (sym at_slot)
          ∙ ap (λ (k : ℕ). a + k) (sym (keep_lowest f z d l v h (omega arith) b))
          ∙ inv

      pub keep_skips : f x ≡ false → a + keep u f l ≡ w
      keep_skips y =
          let k : a + (0 + keep u f l) ≡ w = ap (λ b. a + (cond b (2 ^ t) 0 + keep u f l)) (sym y) ∙ keep_here in
          omega arith

      pub keep_takes : f x ≡ true → (a + 2 ^ t) + keep u f l ≡ w
      keep_takes y =
          let k : a + (2 ^ t + keep u f l) ≡ w = ap (λ b. a + (cond b (2 ^ t) 0 + keep u f l)) (sym y) ∙ keep_here in
          omega arith

pub any_left_none : {A : Type 0} (f : A → Bool) (l : List A) (w : Bool) (v : ℕ) → v ≡ 0 → any_of v f l ≡ w → false ≡ w
any_left_none f l w v e inv = sym (any_nothing f l) ∙ ap (λ k. any_of k f l) (sym e) ∙ inv

pub keep_left_none : {A : Type 0} (f : A → Bool) (l : List A) (a w v : ℕ) → v ≡ 0 → a + keep v f l ≡ w → a ≡ w
keep_left_none f l a w v e inv = let k : keep v f l ≡ 0 = ap (λ n. keep n f l) e ∙ keep_nothing f l in omega arith
