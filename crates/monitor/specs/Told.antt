-- What the library's functions promise, over buffers. Definitions only.
use Rattle.std.specs.Prelude.{ℕ, zero, suc, ◌+◌, ◌*◌, ◌/◌, ◌%◌, min, Result, Ok, Err}
use mathlib.Core.{Bool.cond, List.{List, [], ◌∷◌}, Path.◌≡◌}
use lib.{Dec.eqb, ListN.{length, get_or, take, drop}}
use Rattle.octets.specs.Octets.{put}
use Rattle.records.specs.{Sizes.event_size, Phone.joined}
use Rattle.rules.specs.{declared.Answer.Answer, Step.{step, run, answers}}
use Rattle.explanations.specs.Why.{Line, line}
use Rattle.reasons.specs.Lines.{line_size, with_lines, lines_of, why}
use Rattle.timeline.specs.{Timeline.timeline_events, Unrolls.{with_events, unroll}}

-- ---- one step

-- an answer as one number, from the low byte up: links, domain, code, rule, and two bytes of offset
abbrev pub packed : Answer → ℕ
packed a = (((a.offset * 256 + a.rule) * 256 + a.code) * 256 + a.domain) * 256 + a.links

-- what a caller reads from it, by the macros of bindings/monitor.h: MONITOR_CODE, MONITOR_DOMAIN, MONITOR_LINKS and MONITOR_RULE,
-- a shift by 16, by 8, by none and by 24 and then the lowest byte, and MONITOR_OFFSET, a shift by 32 and then the lowest two
abbrev pub told_code : ℕ → ℕ
told_code n = n / 65536 % 256

abbrev pub told_domain : ℕ → ℕ
told_domain n = n / 256 % 256

abbrev pub told_links : ℕ → ℕ
told_links n = n % 256

abbrev pub told_rule : ℕ → ℕ
told_rule n = n / 16777216 % 256

abbrev pub told_offset : ℕ → ℕ
told_offset n = n / 4294967296 % 65536

-- the number and the image
pub record Stepped (l v : List ℕ) (r : ℕ) (l' : List ℕ) : Type 0 where
  pub answer : r ≡ packed (step l v).answer
  pub image : l' ≡ (step l v).image

-- ---- a run

-- an answer as six bytes
abbrev pub answer_size : ℕ
answer_size = 6

abbrev pub answer_bytes : Answer → List ℕ
answer_bytes a = a.code ∷ a.domain ∷ a.links ∷ a.rule ∷ a.offset / 256 ∷ a.offset % 256 ∷ []

-- what a caller reads from a buffer of them as its i-th, the first one counted 0: MONITOR_RUN_CODE to MONITOR_RUN_OFFSET of bindings/monitor.h
abbrev pub answer_from : List ℕ → ℕ → Answer
answer_from out k =
    record {
      code = get_or out k 0;
      domain = get_or out (k + 1) 0;
      links = get_or out (k + 2) 0;
      rule = get_or out (k + 3) 0;
      offset = get_or out (k + 4) 0 * 256 + get_or out (k + 5) 0;
    }

abbrev pub answer_at : List ℕ → ℕ → Answer
answer_at out i = answer_from out (i * answer_size)

-- the first n events of a buffer, one after the other; the last may be short
abbrev pub events_of : List ℕ → ℕ → List (List ℕ)
events_of b zero = []
events_of b (suc n) = take event_size b ∷ events_of (drop event_size b) n

-- how many events n bytes are, a short last one counted, and how many of them m bytes of answers have room for
abbrev pub event_count : ℕ → ℕ
event_count n = cond (eqb (n % event_size) 0) (n / event_size) (n / event_size + 1)

abbrev pub answered : ℕ → ℕ → ℕ
answered n m = min (event_count n) (m / answer_size)

-- n events on an image l: the image and the buffer of answers after them
pub record Followed (l b out : List ℕ) (n : ℕ) (l' out' : List ℕ) : Type 0 where
  pub image : l' ≡ run l (events_of b n)
  pub told : out' ≡ put out 0 (joined answer_bytes (answers l (events_of b n)))

-- a run: every event for whose answer there is room, and how many these are
pub record Ran (l b out : List ℕ) (n : ℕ) (l' out' : List ℕ) : Type 0 where
  pub count : n ≡ answered (length b) (length out)
  pub followed : Followed l b out n l' out'

-- ---- a count

-- how many there are, or what is told of a refusal, as one number, from the low byte up: two bytes of the count, code, rule, and two bytes of
-- offset, the last three where `packed` has them
abbrev pub count_packed : Result ℕ Answer → ℕ
count_packed (Ok n) = n
count_packed (Err a) = ((a.offset * 256 + a.rule) * 256 + a.code) * 65536

-- ---- why

-- the answer as one number: the count is that of the lines
abbrev pub why_packed : Result ℕ Answer → ℕ
why_packed = count_packed

-- what a caller reads from it: MONITOR_LINES, the lowest two bytes, and MONITOR_CODE, MONITOR_RULE and MONITOR_OFFSET as above
abbrev pub told_lines : ℕ → ℕ
told_lines n = n % 65536

-- what a caller reads from the buffer as its i-th line, the first one counted 0: MONITOR_LINE_SAID and MONITOR_LINE_ID
abbrev pub line_from : List ℕ → ℕ → Line
line_from out k = line (get_or out k 0) (get_or out (k + 1) 0 * 256 + get_or out (k + 2) 0)

abbrev pub line_at : List ℕ → ℕ → Line
line_at out i = line_from out (i * line_size)

-- the number, and the lines that there is room for
pub record Asked (l : List ℕ) (n : ℕ) (out : List ℕ) (r : ℕ) (out' : List ℕ) : Type 0 where
  pub answer : r ≡ why_packed (why l n)
  pub told : out' ≡ with_lines out (take (length out / line_size) (lines_of l n))

-- ---- timelines

-- the answer as one number: the count is that of the events
abbrev pub timeline_packed : Result ℕ Answer → ℕ
timeline_packed = count_packed

-- what a caller reads from it: MONITOR_EVENTS, the lowest two bytes, and MONITOR_CODE, MONITOR_RULE and MONITOR_OFFSET as above
abbrev pub told_events : ℕ → ℕ
told_events n = n % 65536

-- what a caller reads from the buffer as its i-th event, the first one counted 0
abbrev pub event_at : List ℕ → ℕ → List ℕ
event_at b i = take event_size (drop (i * event_size) b)

-- the number, and the events that there is room for
pub record UnrolledFor (l t b : List ℕ) (r : ℕ) (b' : List ℕ) : Type 0 where
  pub answer : r ≡ timeline_packed (unroll l t)
  pub events : b' ≡ with_events b (timeline_events l t)
