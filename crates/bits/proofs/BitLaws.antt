-- What the code's shifts and masks are in plain arithmetic, in words of any width, and what a put digit changes. Assumes nothing.
use mathlib.Core.Path.{◌≡◌, sym, ap, ap₂, ◌∙◌, subst}
use Prim.Native.Nat.{ℕ, suc, ◌+◌, ◌-◌, ◌*◌, ◌/◌, ◌%◌, ◌^◌, ◌<◌, ◌≤◌, max}
use native.Mathlib.Nat.{mod-lt, add-zero, one-mul, mod-eq_of_lt, div-eq_of_lt, mul_comm, mod-mod, mul-sub, mul-le-mul_right, max-eq_right, le_of_suc-le-suc}
use native.{Mathlib.Omega.arith, Mathlib.Decide.dec_lt}
use lib.Pow.{field, mod-mod-pow, pow_pos, pow-add, pow_mono, ones_lt, split, high, low, shl_exact, shr_lt, shr-shr}
use lib.{Bits.{bit_and, bit_or, and_mask, or_block, and_block, or_step, or_zero_r, or_shr, or_mod, and_high}, Arith.digits_lt, Dec.lit<}
use Rattle.bits.specs.Bits.{digit, put_digit}

-- 1 << k in n bits
pub one_shl : (n k : ℕ) → k < n → 1 * 2 ^ k % 2 ^ n ≡ 2 ^ k
one_shl n k h = shl_exact 1 k n (lit< tt) (omega arith) ∙ one-mul (2 ^ k)

or_one : (x : ℕ) → bit_or x 1 ≡ x / 2 * 2 + 1
or_one x =
    or_step x 1
    ∙ ap₂ (λ (a b : ℕ). a * 2 + b) (or_zero_r (x / 2)) (max-eq_right (le_of_suc-le-suc (mod-lt x (lit< tt))))

pub or_put : (n w k : ℕ) → k < n → bit_or w (1 * 2 ^ k % 2 ^ n) ≡ put_digit w k 1
unfolding put_digit
or_put n w k h =
    ap₂ bit_or (sym (split w k)) (one_shl n k h ∙ sym (one-mul (2 ^ k)) ∙ sym (add-zero (1 * 2 ^ k)))
    ∙ or_block k (w / 2 ^ k) 1 (w % 2 ^ k) 0 (mod-lt w (pow_pos k)) (pow_pos k)
    ∙ ap₂ (λ (x y : ℕ). x * 2 ^ k + y) (or_one (w / 2 ^ k)) (or_zero_r (w % 2 ^ k))

-- j bits above bit k, and k below it
mask : (j k : ℕ) → (2 ^ ((j + 1) + k) - 1) - 2 ^ k ≡ (2 ^ (j + 1) - 2 ^ 1) * 2 ^ k + (2 ^ k - 1)
mask j k =
    let P = 2 ^ k in
    let Q = 2 ^ (j + 1) in
    let e : Q * P ≡ 2 ^ ((j + 1) + k) = sym (pow-add 2 (j + 1) k) in
    let l : 2 * P ≤ Q * P = mul-le-mul_right P (pow_mono {i = 1} {j = j + 1} (omega arith)) in
    let d : (Q - 2) * P ≡ P * Q - P * 2 = mul_comm (Q - 2) P ∙ mul-sub P Q 2 in
    omega (arith, mul_comm Q P, pow_pos k)

above : (w k j n : ℕ) → n ≡ j + (k + 1) → w < 2 ^ n → w / 2 ^ k / 2 < 2 ^ j
above w k j n s h = rw (shr-shr w k 1) (shr_lt j (k + 1) (subst (λ (n : ℕ). w < 2 ^ n) s h))

pub and_put : (n w k : ℕ) → w < 2 ^ n → k < n → bit_and w ((2 ^ n - 1) - 1 * 2 ^ k % 2 ^ n) ≡ put_digit w k 0
unfolding put_digit
and_put n w k hw h =
    let j : ℕ = n - k - 1 in
    let e : (j + 1) + k ≡ n = omega arith in
    ap₂ bit_and (sym (split w k)) (ap (λ (x : ℕ). (2 ^ n - 1) - x) (one_shl n k h) ∙ ap (λ (m : ℕ). (2 ^ m - 1) - 2 ^ k) (sym e) ∙ mask j k)
    ∙ and_block k (w / 2 ^ k) (2 ^ (j + 1) - 2 ^ 1) (w % 2 ^ k) (2 ^ k - 1) (mod-lt w (pow_pos k)) (ones_lt k)
    ∙ ap₂ (λ (x y : ℕ). x * 2 ^ k + y)
    (and_high (w / 2 ^ k) j 1 ∙ ap (λ (x : ℕ). x * 2) (mod-eq_of_lt (above w k j n (omega arith) hw)) ∙ sym (add-zero (w / 2 ^ k / 2 * 2)))
    (and_mask (w % 2 ^ k) k ∙ mod-mod w (2 ^ k))

-- ---- a put digit is there, and every other digit is as it was

put_high : (w k b : ℕ) → put_digit w k b / 2 ^ k ≡ w / 2 ^ k / 2 * 2 + b
unfolding put_digit
put_high w k b = high (w / 2 ^ k / 2 * 2 + b) k (mod-lt w (pow_pos k))

put_low : (w k b : ℕ) → put_digit w k b % 2 ^ k ≡ w % 2 ^ k
unfolding put_digit
put_low w k b = low (w / 2 ^ k / 2 * 2 + b) k (mod-lt w (pow_pos k))

pub digit_same : (w k b : ℕ) → b < 2 → digit (put_digit w k b) k ≡ b
unfolding digit
digit_same w k b h = rw put_high (omega arith)

-- a digit above k is one of what stands above k, a digit below k one of what stands below
digit_above : (w k i : ℕ) → digit w (k + suc i) ≡ digit (w / 2 ^ k / 2) i
unfolding digit
digit_above w k i =
    ap (λ (x : ℕ). x % 2)
    (ap (λ (n : ℕ). w / 2 ^ n) (omega arith) ∙ sym (shr-shr w (k + 1) i) ∙ ap (λ (x : ℕ). x / 2 ^ i) (sym (shr-shr w k 1)))

digit_below : (w j i : ℕ) → digit w j ≡ digit (w % 2 ^ ((i + 1) + j)) j
unfolding digit
digit_below w j i = sym (ap (λ (x : ℕ). x % 2) (field w (i + 1) j) ∙ mod-mod-pow (w / 2 ^ j) i 1)

other_above : (w k b i : ℕ) → b < 2 → digit (put_digit w k b) (k + suc i) ≡ digit w (k + suc i)
other_above w k b i hb =
    digit_above (put_digit w k b) k i ∙ ap (λ (x : ℕ). digit (x / 2) i) (put_high w k b)
    ∙ ap (λ (x : ℕ). digit x i) h ∙ sym (digit_above w k i)
  where
    h : (w / 2 ^ k / 2 * 2 + b) / 2 ≡ w / 2 ^ k / 2
    h = omega arith

other_below : (w j b i : ℕ) → digit (put_digit w ((i + 1) + j) b) j ≡ digit w j
other_below w j b i =
    digit_below (put_digit w ((i + 1) + j) b) j i
    ∙ ap (λ (x : ℕ). digit x j) (put_low w ((i + 1) + j) b)
    ∙ sym (digit_below w j i)

pub digit_other : (w k b j : ℕ) → b < 2 → (j ≡ k → ⊥) → digit (put_digit w k b) j ≡ digit w j
digit_other w k b j hb ne =
    elim (dec_lt j k) [
      | yes h ↦
          let s : ((k - j - 1) + 1) + j ≡ k = omega arith in
          subst (λ (n : ℕ). digit (put_digit w n b) j ≡ digit w j) s (other_below w j b (k - j - 1))
      | no h ↦
          let s : k + suc (j - k - 1) ≡ j = omega arith in
          subst (λ (n : ℕ). digit (put_digit w k b) n ≡ digit w n) s (other_above w k b (j - k - 1) hb)
    ]

-- ---- a put digit below the n-th keeps a number of n digits one of n digits

pub put_digit_small : (w k b n : ℕ) → w < 2 ^ n → k < n → b < 2 → put_digit w k b < 2 ^ n
unfolding put_digit
put_digit_small w k b n h l hb =
    let j : ℕ = n - k - 1 in
    let a : w / 2 ^ k / 2 < 2 ^ j = above w k j n (omega arith) h in
    let c : w / 2 ^ k / 2 * 2 + b < 2 ^ j * 2 = omega arith in
    subst (λ (x : ℕ). put_digit w k b < x) (whole j (omega arith)) (digits_lt c (mod-lt w (pow_pos k)))
  where
    whole : (j : ℕ) → (j + 1) + k ≡ n → 2 ^ j * 2 * 2 ^ k ≡ 2 ^ n
    whole j s = ap (λ (x : ℕ). x * 2 ^ k) (sym (pow-add 2 j 1)) ∙ sym (pow-add 2 (j + 1) k) ∙ ap (λ (x : ℕ). 2 ^ x) s

-- ---- a digit set above all others is added

pub put_above : (w k : ℕ) → w < 2 ^ k → put_digit w k 1 ≡ w + 2 ^ k
unfolding put_digit
put_above w k h = rw (div-eq_of_lt h, mod-eq_of_lt h) (omega (arith, one-mul (2 ^ k)))

-- ---- a digit set in one of two words is set in both together

or_odd : (a b : ℕ) → bit_or a b / 2 * 2 + 1 ≡ bit_or a (b / 2 * 2 + 1)
or_odd a b =
    let h : (b / 2 * 2 + 1) / 2 ≡ b / 2 = omega arith in
    let o : (b / 2 * 2 + 1) % 2 ≡ 1 = omega arith in
    let s : bit_or a (b / 2 * 2 + 1) ≡ bit_or (a / 2) (b / 2) * 2 + max (a % 2) 1 =
    or_step a (b / 2 * 2 + 1) ∙ ap₂ (λ (x y : ℕ). bit_or (a / 2) x * 2 + max (a % 2) y) h o in
    omega (arith, or_step a b)

pub or_set : (a b k : ℕ) → put_digit (bit_or a b) k 1 ≡ bit_or a (put_digit b k 1)
unfolding put_digit
or_set a b k =
    rw (or_shr a b k, or_mod a b k)
    (ap (λ (x : ℕ). x * 2 ^ k + bit_or (a % 2 ^ k) (b % 2 ^ k)) (or_odd (a / 2 ^ k) (b / 2 ^ k))
    ∙ sym (or_block k (a / 2 ^ k) (b / 2 ^ k / 2 * 2 + 1) (a % 2 ^ k) (b % 2 ^ k) (mod-lt a (pow_pos k)) (mod-lt b (pow_pos k)))
    ∙ ap (λ (x : ℕ). bit_or x ((b / 2 ^ k / 2 * 2 + 1) * 2 ^ k + b % 2 ^ k)) (split a k))
