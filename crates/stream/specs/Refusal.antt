-- What a program prints of an image that is refused. Definitions, and lines computed by them. Assumes nothing.
use Rattle.std.specs.Prelude.{ℕ, ◌+◌, ◌*◌}
use mathlib.Core.{List.{List, [], ◌∷◌, ◌++◌}, Path.{◌≡◌, refl}}
use Rattle.std.specs.Prelude.{length}
use Rattle.octets.specs.Octets.{bytes}
use Rattle.stream.specs.Decimal.{most_digits, places_within, decimal, column}

-- "A buffer whose image answers 1 prints only the first line and `image 1`"
abbrev pub image_one : List ℕ
image_one = bytes 7 0x696d616765_20_31

-- 02, item 1: "`bench` prints both after `image 1`", the broken rule and the byte offset
unfoldable pub image_refused : ℕ → ℕ → List ℕ
image_refused rule offset = image_one ++ column rule ++ column offset ++ (10 ∷ [])

-- no such line is longer: the words, two numbers with a space before each, and the line's end
abbrev pub longest_refusal : ℕ
longest_refusal = length image_one + 2 * (1 + most_digits) + 1

-- ---- lines, computed

-- "image 1 4 88", and a rule of a record far behind
pub fourth_rule : image_refused 4 88 ≡ bytes 13 0x696d616765_20_31_20_34_20_3838_0a
unfolding image_refused decimal places_within
fourth_rule = refl

pub far_behind : image_refused 8 2524 ≡ bytes 15 0x696d616765_20_31_20_38_20_32353234_0a
unfolding image_refused decimal places_within
far_behind = refl

-- the longest number of 64 bits
pub last_number : length (decimal 18446744073709551615) ≡ most_digits
unfolding decimal places_within
last_number = refl
