-- An explanation in a buffer: three bytes a line. Definitions only.
use Rattle.std.specs.Prelude.{ℕ, ◌/◌, Result, Ok, Err}
use mathlib.Core.{Bool.{cond, not, ◌||◌}, List.{List, [], ◌∷◌, map, reverse}, Path.◌≡◌}
use lib.{Dec.eqb, ListN.{length, take}}
use Rattle.octets.specs.Octets.{bytes, put}
use Rattle.records.specs.Phone.{Trust, decode, joined}
use Rattle.rules.specs.{declared.Answer.Answer, Words.{◌⇒◌, first}, ImageRules.accepted, Codes.executable_known, Step.refusal}
use Rattle.explanations.specs.Why.{Line, link_line, reason_line, holders, climb, explanation}

abbrev pub line_size : ℕ
line_size = 3

-- what is said, and the id of the record of which it is said
abbrev pub line_bytes : Line → List ℕ
line_bytes n = n.what ∷ bytes 2 n.id

abbrev pub most_lines : ℕ
most_lines = 64

-- the lines of the chain of n records that is climbed from the key k, root first
abbrev pub climbed_lines : Trust → ℕ → ℕ → ℕ → List Line
climbed_lines t d n k = map link_line (reverse (climb n t d k))

-- the lines of the records with the key k
abbrev pub holder_lines : Trust → ℕ → List Line
holder_lines t k = map (reason_line t) (holders t k)

-- the lines at the start of a buffer, every other byte kept
abbrev pub with_lines : List ℕ → List Line → List ℕ
with_lines out ls = put out 0 (joined line_bytes ls)

pub record Told (ls : List Line) (out : List ℕ) (n : ℕ) (out' : List ℕ) : Type 0 where
  pub count : n ≡ length ls
  pub lines : out' ≡ with_lines out ls

-- "Refusals: codes 1 and 3 as in 01": the id of no executable, 0 among them
unfoldable pub why_code : List ℕ → ℕ → ℕ
why_code l n = first ((not (accepted l) ⇒ 1) ∷ (eqb n 0 || not (executable_known (decode l) n) ⇒ 3) ∷ [])

-- what is asked for: a refusal has no lines
unfoldable pub lines_of : List ℕ → ℕ → List Line
lines_of l n = cond (eqb (why_code l n) 0) (explanation (decode l) n) []

-- the answer: how many lines there are, or the code of a refusal, for code 1 with the rule and the byte
unfoldable pub why : List ℕ → ℕ → Result ℕ Answer
why l n = cond (eqb (why_code l n) 0) (Ok (length (lines_of l n))) (Err (refusal l (why_code l n)))

-- the answer, and every line at the start of a buffer that has room for them
pub record Whole (l : List ℕ) (n : ℕ) (out : List ℕ) (r : Result ℕ Answer) (out' : List ℕ) : Type 0 where
  pub answer : r ≡ why l n
  pub told : out' ≡ with_lines out (lines_of l n)

-- the answer, and at the start of the buffer as many of the lines as it has room for, every other byte kept
pub record Explained (l : List ℕ) (n : ℕ) (out : List ℕ) (r : Result ℕ Answer) (out' : List ℕ) : Type 0 where
  pub answer : r ≡ why l n
  pub told : out' ≡ with_lines out (take (length out / line_size) (lines_of l n))
