-- A number as text. Definitions only.
use Rattle.std.specs.Prelude.{ℕ, zero, suc, ◌/◌}
use mathlib.Core.{Bool.cond, List.{List, ◌∷◌}}
use Rattle.std.specs.Prelude.{ltb}
use Rattle.io.specs.Digits.{last_digits}

-- the most digits that a number of 64 bits has
abbrev pub most_digits : ℕ
most_digits = 20

-- the digits of n, one at least and at most one more than the first number
unfoldable pub places_within : ℕ → ℕ → ℕ
places_within zero n = 1
places_within (suc more) n = cond (ltb n 10) 1 (suc (places_within more (n / 10)))

-- the decimal digits of a number of 64 bits, in ASCII and without zeros in front
unfoldable pub decimal : ℕ → List ℕ
decimal n = last_digits 10 (places_within 19 n) n

-- a space and a number
abbrev pub column : ℕ → List ℕ
column n = 32 ∷ decimal n
