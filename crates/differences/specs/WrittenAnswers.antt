-- What `bench` would write of the answers of a case, each told as one number. Definitions, and a text computed by them. Assumes nothing.
use Rattle.std.specs.Prelude.{ℕ, ◌+◌, ◌*◌, ◌/◌, ◌%◌}
use mathlib.Core.{Bool.cond, List.{List, [], ◌∷◌, ◌++◌}, Path.{◌≡◌, refl}}
use lib.{Dec.{eqb, leb}, ListN.{length, get_or}}
use Rattle.octets.specs.Octets.{bytes}
use Rattle.records.specs.Sizes.{event_size}
use Rattle.rules.specs.declared.Answer.{Answer}
use Rattle.stream.specs.{Decimal.{places_within, decimal}, PrintedLines.{line, longest_line, heading}, Refusal.image_refused}

-- ---- an answer

-- its parts, from the low byte up links, domain, code, rule and two bytes of offset, as bindings/monitor.h takes them apart
abbrev pub answer_of : ℕ → Answer
answer_of t =
    record {
      code = t / 65536 % 256;
      domain = t / 256 % 256;
      links = t % 256;
      rule = t / 16777216 % 256;
      offset = t / 4294967296 % 65536;
    }

-- what is written of the n-th event's answer t, where opening told `opened`: a refused image is told once, and what is neither by its number
unfoldable pub told_line : ℕ → ℕ → ℕ → ℕ → List ℕ
told_line opened n kind t =
    cond (eqb (t / 16777216) 0) (line n kind (answer_of t))
    (cond (eqb t opened) []
    (cond (eqb (t % 16777216) 65536) (image_refused (answer_of t).rule (answer_of t).offset)
    (line t kind (answer_of t))))

-- what is written of opening: nothing where the image is accepted
unfoldable pub opened_line : ℕ → List ℕ
opened_line opened = cond (eqb opened 0) [] (told_line 0 0 0 opened)

-- ---- the answers

-- the kind of an event of a buffer, the first one counted 0: its first byte, and 0 behind the end
abbrev pub kind_at : List ℕ → ℕ → ℕ
kind_at events i = get_or events (i * event_size) 0

-- the bytes that the text has room in
abbrev pub text_room : ℕ
text_room = 65536

-- a text, and behind it what is written of the answers from the i-th event on, as far as there is room for the longest line
unfoldable pub lines_behind : ℕ → List ℕ → ℕ → List ℕ → List ℕ → List ℕ
lines_behind opened events i text [] = text
lines_behind opened events i text (t ∷ ts) =
    cond (leb (length text + longest_line) text_room)
    (lines_behind opened events (i + 1) (text ++ told_line opened (i + 1) (kind_at events i) t) ts)
    text

-- all of it, by what opening told, the events and their answers
unfoldable pub written : ℕ → List ℕ → List ℕ → List ℕ
written opened events told = lines_behind opened events 0 (heading ++ opened_line opened) told

-- ---- texts, computed

-- every definition that a text goes by, under one name
unfoldable pub writing : Unit {0}
unfolding line decimal places_within heading image_refused told_line opened_line lines_behind written
writing = tt

-- a request granted in domain 1 by 2 links, and an event that is none, refused with code 2: "1 15 0 1 2", "2 0 2 0 0"
pub two_answers : written 0 (15 ∷ []) (258 ∷ 131072 ∷ []) ≡ heading ++ bytes 11 0x31_20_3135_20_30_20_31_20_32_0a ++ bytes 10 0x32_20_30_20_32_20_30_20_30_0a
unfolding writing
two_answers = refl

-- rule 4 at byte 88, told at opening and at two events, and written once: "image 1 4 88"
pub told_once : written 0x58_04_01_00_00 [] (0x58_04_01_00_00 ∷ 0x58_04_01_00_00 ∷ []) ≡ heading ++ bytes 13 0x696d616765_20_31_20_34_20_3838_0a
unfolding writing
told_once = refl

-- a rule beside code 0, which no line shows: "16777216 7 0 0 0"
pub by_its_number : written 0 (7 ∷ []) (16777216 ∷ []) ≡ heading ++ bytes 17 0x3136373737323136_20_37_20_30_20_30_20_30_0a
unfolding writing
by_its_number = refl
