-- One binary digit of a word, as plain arithmetic. Definitions only.
use Rattle.std.specs.Prelude.{ℕ, ◌+◌, ◌*◌, ◌/◌, ◌%◌, ◌^◌, Bool, eqb}

-- binary digit k of w, the lowest being digit 0
unfoldable pub digit : ℕ → ℕ → ℕ
digit w k = w / 2 ^ k % 2

-- w with b as digit k: the digits above it, b, the digits below it
unfoldable pub put_digit : ℕ → ℕ → ℕ → ℕ
put_digit w k b = (w / 2 ^ k / 2 * 2 + b) * 2 ^ k + w % 2 ^ k

abbrev pub has_bit : ℕ → ℕ → Bool
has_bit w k = eqb (digit w k) 1

abbrev pub set_bit : ℕ → ℕ → ℕ
set_bit w k = put_digit w k 1

abbrev pub clear_bit : ℕ → ℕ → ℕ
clear_bit w k = put_digit w k 0
