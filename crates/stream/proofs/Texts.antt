-- Laws of text: a copy is a run of bytes put in place, and how many digits a number has. Assumes nothing.
use Prim.Native.Nat.{ℕ, zero, suc, ◌+◌, ◌-◌, ◌*◌, ◌^◌, ◌/◌, ◌%◌, ◌≤◌, ◌<◌}
use mathlib.Core.{Bool.{Bool, true, false, cond}, List.{List, [], ◌∷◌, ◌++◌}, Path.{◌≡◌, refl, subst, ap, ◌∙◌}}
use native.Mathlib.Nat.{le_refl, le_trans, zero-lt-suc, pow-suc, one-le-pow, pow-le-pow_right, mul-le-mul_right, le-div_iff_mul-le, div-lt_iff_lt-mul}
use native.{Mathlib.Numerals.unary_clauses, Mathlib.Omega.arith, Mathlib.Decide.dec_le}
use borrow.Author.Tests.{lt-ltb, le-ltb}
use lib.{Dec.ltb, ListN.{length, take, drop, length-append}, Seq.{paste, take_all}}
use Rattle.io.specs.Digits.{last_digits, hex_digit_ascii, IsDigitCount}
use Rattle.octets.specs.Octets.{put}
use Rattle.stream.specs.Decimal.{most_digits, places_within, decimal}

pub paste_put : (l : List ℕ) (i : ℕ) (vs : List ℕ) → paste l i vs (length vs) ≡ put l i vs
unfolding put
paste_put l i vs = ap (λ (t : List ℕ). take i l ++ t ++ drop (i + length vs) l) (take_all (length vs) vs (le_refl (length vs)))

-- ---- the digits of a number

length_digits : (b k n : ℕ) → length (last_digits b k n) ≡ k
length_digits b zero n = refl
length_digits b (suc k) n =
    let h = length_digits b k (n / b) in
    let e : length (last_digits b k (n / b)) + 1 ≡ suc k = omega arith in
    length-append (last_digits b k (n / b)) (hex_digit_ascii (n % b) ∷ []) ∙ e

places_small : (f n : ℕ) → places_within f n ≤ suc f
unfolding places_within
places_small zero n = omega arith
places_small (suc f) n = go (ltb n 10) (places_small f (n / 10))
  where
    go : (b : Bool) → places_within f (n / 10) ≤ suc f → cond b 1 (suc (places_within f (n / 10))) ≤ suc (suc f)
    go true h = omega arith
    go false h = omega arith

pub decimal_small : (n : ℕ) → length (decimal n) ≤ most_digits
unfolding decimal
decimal_small n = let e = length_digits 10 (places_within 19 n) n in let h = places_small 19 n in omega arith

-- a number has as many places as hold it, and no fewer do
places_fewest : (f k n : ℕ) → IsDigitCount 10 1 n (suc k) → k ≤ f → suc k ≡ places_within f n
unfolding places_within
places_fewest zero zero n h s = refl
places_fewest zero (suc k) n h s = absurd (omega arith)
places_fewest (suc f) zero n h s = let e = lt-ltb n 10 h.1 in rw e
places_fewest (suc f) (suc k) n h s =
    let low : 10 ^ k * 10 ≤ n = simp unary_clauses at (h.2 (omega arith)) in
    let e = le-ltb n 10 (le_trans (mul-le-mul_right 10 (one-le-pow k 10 (zero-lt-suc 9))) low) in
    let high : n < 10 ^ suc k * 10 = subst (λ (x : ℕ). n < x) (pow-suc 10 (suc k)) h.1 in
    let fewer : IsDigitCount 10 1 (n / 10) (suc k) =
    (omega arith, (div-lt_iff_lt-mul (zero-lt-suc 9)).1 high, λ m. simp unary_clauses ((le-div_iff_mul-le (zero-lt-suc 9)).1 low)) in
    rw e (ap suc (places_fewest f k (n / 10) fewer (omega arith)))

-- what the kit's digits come to
pub decimal_is : (k n : ℕ) → IsDigitCount 10 1 n k → k ≤ most_digits → last_digits 10 k n ≡ decimal n
unfolding decimal
decimal_is zero n h s = absurd (omega arith)
decimal_is (suc k) n h s = ap (λ (j : ℕ). last_digits 10 j n) (places_fewest 19 k n h (omega arith))

-- a number of 64 bits has no more than 20
pub fewest_small : (k n : ℕ) → IsDigitCount 10 1 n k → n < 10 ^ most_digits → k ≤ most_digits
fewest_small k n h s = elim (dec_le k most_digits) [
  | yes l ↦ l
  | no l ↦
      let low = pow-le-pow_right (zero-lt-suc 9) {i = most_digits} {j = k - 1} (omega arith) in
      let there = h.2 (omega arith) in
      absurd (omega arith)
]
