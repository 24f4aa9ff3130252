-- Words and `any`: what the slots of a word tell, in the words of the rules. Assumes nothing.
use Prim.Native.Nat.{ℕ, ◌+◌, ◌*◌, ◌/◌, ◌%◌, ◌^◌, ◌≤◌, ◌<◌}
use mathlib.Core.{Bool.{Bool, true, false, cond, ◌&&◌, ◌||◌}, List.{List, [], ◌∷◌}, Logic.◌≢◌, Path.{◌≡◌, refl, ap₂}}
use native.Mathlib.Omega.{arith}
use lib.{Count.count_trailing_zeros, Dec.eqb, ListN.length}
use Rattle.records.specs.{Phone.{Trust, no_certificate}, declared.Certificate.Certificate}
use Rattle.bits.specs.SlotWord.{word, any_of, keep, less_lowest}
use Rattle.bits.proofs.BitLaws.{one_shl}
use Rattle.bits.proofs.WordLaws.{falls, at_lowest, any_here, any_stops, any_goes_on, keep_skips, keep_takes}
use Rattle.rules.specs.Words.{any}
use Rattle.chain.specs.SlotWords.{slot}

module _ {A : Type 0} (f : A → Bool) where
  pub any_none : ((x : A) → f x ≡ false) → (l : List A) → any f l ≡ false
  unfolding any
  any_none h [] = refl
  any_none h (x ∷ l) = rw (h x) (any_none h l)

  module _ (g : A → Bool) where
    pub any_same : ((x : A) → f x ≡ g x) → (l : List A) → any f l ≡ any g l
    unfolding any
    any_same h [] = refl
    any_same h (x ∷ l) = ap₂ (λ a b. a || b) (h x) (any_same h l)

    pub any_or : (l : List A) → any (λ x. f x || g x) l ≡ (any f l || any g l)
    unfolding any
    any_or [] = refl
    any_or (x ∷ l) = rw (any_or l) (go (f x) (g x) (any f l) (any g l))
      where
        go : (a b c d : Bool) → ((a || b) || (c || d)) ≡ ((a || c) || (b || d))
        go true b c d = refl
        go false true true d = refl
        go false true false d = refl
        go false false c d = refl

    pub word_any : (l : List A) → any_of (word f l) g l ≡ any (λ x. f x && g x) l
    unfolding word any_of any
    word_any [] = refl
    word_any (x ∷ l) = go (word_any l) (f x)
      where
        go : any_of (word f l) g l ≡ any (λ x. f x && g x) l → (b : Bool)
            → ((eqb ((word f l * 2 + cond b 1 0) % 2) 1 && g x) || any_of ((word f l * 2 + cond b 1 0) / 2) g l) ≡ ((b && g x) || any (λ x. f x && g x) l)
        go ih true =
            let m : (word f l * 2 + 1) % 2 ≡ 1 = omega arith in
            let q : (word f l * 2 + 1) / 2 ≡ word f l = omega arith in
            rw (m, q, ih)
        go ih false =
            let m : (word f l * 2 + 0) % 2 ≡ 0 = omega arith in
            let q : (word f l * 2 + 0) / 2 ≡ word f l = omega arith in
            rw (m, q, ih)

-- ---- a loop over the slots of a word: v is left, i its lowest slot, c the record there and u what is left after it

pub record Going (t : Trust) (v : ℕ) : Type 0 where
  pub few : length t.certificates ≤ 64
  pub fits : v < 2 ^ length t.certificates

module _ {t : Trust} {v i : ℕ} (g : Going t v) (p : v ≢ 0) (e : i ≡ count_trailing_zeros 64 v) where
  pub at_slot : i < length t.certificates
  at_slot = at_lowest 64 t.certificates v i g.few p g.fits e

  module _ {u : ℕ} (h : u ≡ less_lowest 64 v) where
    pub goes_to : Going t u
    goes_to = record { few = g.few; fits = omega (arith, g.fits, falls 64 v (omega arith)) }

  module _ (f : Certificate → Bool) {c : Certificate} (q : c ≡ slot t i) where
    pub some_here : any_of v f t.certificates ≡ (f c || any_of (less_lowest 64 v) f t.certificates)
    some_here = any_here 64 t.certificates v i g.few p g.fits e f no_certificate c q

    pub some_stops : {w : Bool} → any_of v f t.certificates ≡ w → f c ≡ true → true ≡ w
    some_stops {w} inv y = any_stops 64 t.certificates v i g.few p g.fits e f no_certificate c q w inv y

    module _ {u : ℕ} (h : u ≡ less_lowest 64 v) where
      pub some_goes_on : {w : Bool} → any_of v f t.certificates ≡ w → f c ≡ false → any_of u f t.certificates ≡ w
      some_goes_on {w} inv y = any_goes_on 64 t.certificates v i g.few p g.fits e f no_certificate c q w inv u h y

      pub found_skips : (a : ℕ) {w : ℕ} → a + keep v f t.certificates ≡ w → f c ≡ false → a + keep u f t.certificates ≡ w
      found_skips a {w} inv y = keep_skips 64 t.certificates v i g.few p g.fits e f no_certificate c q a w inv u h y

      -- the bit of slot i, as it is written in the language
      pub found_takes : (a : ℕ) {w : ℕ} → a + keep v f t.certificates ≡ w → f c ≡ true
          → (a + 1 * 2 ^ i % 18446744073709551616) + keep u f t.certificates ≡ w
      found_takes a {w} inv y =
          rw (one_shl 64 i (let s = at_slot in omega (arith, g.few)))
          (keep_takes 64 t.certificates v i g.few p g.fits e f no_certificate c q a w inv u h y)
