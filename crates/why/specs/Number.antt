-- A word of the command line as a number. Definitions, and words computed by them. Assumes nothing.
use Rattle.std.specs.Prelude.{ℕ, ◌+◌, ◌-◌, ◌*◌, Option, Some, None}
use mathlib.Core.{Bool.{cond, ◌&&◌}, List.{List, [], ◌∷◌}, Path.{◌≡◌, refl}}
use lib.{Dec.leb, ListN.length}
use Rattle.octets.specs.Octets.{bytes}

-- the number that digits make behind those that make n; none where a byte is no digit
unfoldable pub number_from : ℕ → List ℕ → Option ℕ
number_from n [] = Some n
number_from n (b ∷ l) = cond (leb 48 b && leb b 57) (number_from (n * 10 + (b - 48)) l) None

-- one more digit, and 64 bits would not hold every number
abbrev pub most_places : ℕ
most_places = 19

-- a word is a number where it has digits alone, one at least
unfoldable pub number : List ℕ → Option ℕ
number l = cond (leb 1 (length l) && leb (length l) most_places) (number_from 0 l) None

-- ---- words, computed

-- "65535", "007", "0"
pub last_id : number (bytes 5 0x3635353335) ≡ Some 65535
unfolding number number_from
last_id = refl

pub zeros_before : number (bytes 3 0x303037) ≡ Some 7
unfolding number number_from
zeros_before = refl

pub none : number (bytes 1 0x30) ≡ Some 0
unfolding number number_from
none = refl

-- no word, "+7", "7a", and twenty digits
pub no_word : number [] ≡ None
unfolding number
no_word = refl

pub signed : number (bytes 2 0x2b37) ≡ None
unfolding number number_from
signed = refl

pub lettered : number (bytes 2 0x3761) ≡ None
unfolding number number_from
lettered = refl

pub too_long : number (bytes 20 0x3030303030303030303030303030303030303031) ≡ None
unfolding number
too_long = refl
