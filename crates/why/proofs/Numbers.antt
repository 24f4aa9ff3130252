-- Of a number's digits, that 64 bits hold it. Assumes nothing.
use Rattle.std.proofs.Common.{ℕ, suc, ◌≡◌, ◌+◌, ◌*◌, ◌^◌, ◌≤◌, ◌<◌, arith, ap}
use Rattle.std.proofs.Math.Nat.{zero-lt-suc, pow-suc, pow-le-pow_right}

pub few_places : (n i : ℕ) → n < 10 ^ i → i ≤ 18 → n < 10 ^ 18
few_places n i h k = let p = pow-le-pow_right (zero-lt-suc 9) {i = i} {j = 18} k in omega arith

pub place_more : (n i d : ℕ) → n < 10 ^ i → d < 10 → n * 10 + d < 10 ^ (i + 1)
place_more n i d h k =
    let e : suc i ≡ i + 1 = omega arith in
    omega (arith, pow-suc 10 i, ap (λ (j : ℕ). 10 ^ j) e)
