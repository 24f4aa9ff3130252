-- 01, "One run of bench, whole": what it prints. Definitions, and lines computed by them. Assumes nothing.
use Rattle.std.specs.Prelude.{ℕ, ◌+◌, ◌*◌}
use mathlib.Core.{Bool.cond, List.{List, [], ◌∷◌, ◌++◌}, Path.{◌≡◌, refl}}
use Rattle.std.specs.Prelude.{leb}
use Rattle.octets.specs.Octets.{bytes}
use Rattle.rules.specs.declared.Answer.{Answer}
use Rattle.stream.specs.Decimal.{most_digits, places_within, decimal, column}

-- "Each line is event number, kind, code, domain, links"
unfoldable pub line : ℕ → ℕ → Answer → List ℕ
line n kind a = decimal n ++ column kind ++ column a.code ++ column a.domain ++ column a.links ++ (10 ∷ [])

-- no line is longer: five numbers, and a byte behind each
abbrev pub longest_line : ℕ
longest_line = 5 * (most_digits + 1)

-- where the next goes in a buffer of this size: behind what is collected, or at the start where there is no room for the longest
abbrev pub line_place : ℕ → ℕ → ℕ
line_place used size = cond (leb (used + longest_line) size) used 0

-- "event kind code domain links", the first line
unfoldable pub heading : List ℕ
heading = bytes 29 0x6576656e74_20_6b696e64_20_636f6465_20_646f6d61696e_20_6c696e6b73_0a

-- ---- lines, computed

abbrev told : ℕ → ℕ → ℕ → Answer
told c d n = record { code = c; domain = d; links = n; rule = 0; offset = 0 }

-- "1 15 0 1 2"
pub first_of_the_run : line 1 15 (told 0 1 2) ≡ bytes 11 0x31_20_3135_20_30_20_31_20_32_0a
unfolding line decimal places_within
first_of_the_run = refl

-- "1000 255 2 0 0": a kind is told whole, and the number of an event too
pub whole_numbers : line 1000 255 (told 2 0 0) ≡ bytes 15 0x31303030_20_323535_20_32_20_30_20_30_0a
unfolding line decimal places_within
whole_numbers = refl
