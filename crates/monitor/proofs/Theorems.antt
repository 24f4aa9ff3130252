-- WHAT A CALLER READS. Each sentence of bindings/monitor.h with its statement; the files cited hold the arguments. Assumes nothing.
-- l is an image, v an event, t a timeline, b a buffer of events and out one for answers or lines, all of them any bytes; n is the id of an
-- executable; l', b' and out' are what stands there after the call, r is its result.
-- What the statements speak of: `step`, `run` (rules, specs/Step), `code` (rules, specs/Codes), `explanation` (explanations, specs/Why),
-- `lines_of`, `why_code` (reasons, specs/Lines), `timeline_code`, `timeline_events` (timeline, specs/Timeline), `in_turn` (timeline,
-- specs/Running), and here specs/Told.
use Prim.Native.Nat.{ℕ, ◌+◌, ◌*◌, ◌/◌, ◌%◌, ◌≤◌, ◌<◌, min}
use Rattle.std.specs.Prelude.{Ok, Err}
use mathlib.Core.{Bool.true, List.{List, [], ◌++◌}, Logic.{◌≢◌, ◌↔◌}, Path.{◌≡◌, refl, sym, ap, ◌∙◌}}
use native.Mathlib.Omega.{arith}
use lib.ListN.{length, get_or, take, drop}
use Rattle.octets.specs.Octets.{bytes, put}
use Rattle.octets.proofs.ByteLaws.{get_or_put_after}
use Rattle.records.specs.{Sizes.event_size, Phone.{decode, joined}}
use Rattle.records.proofs.Joined.{length_joined}
use Rattle.rules.specs.{declared.Answer.Answer, ImageRules.{accepted, «open»}, Faults.{fault, fault_offset}, Codes.code}
use Rattle.rules.specs.Step.{refused, opened, step, run, answers}
use Rattle.laws.proofs.Where.{no_fault_accepted, opened_whole, rule_known}
use Rattle.keeping.proofs.EventAnswers.{answer_code, told_where, told_no_fault}
use Rattle.opening.proofs.Offsets.{opened_told}
use Rattle.explanations.specs.Why.{said_link, line, explanation}
use Rattle.reasons.specs.Lines.{line_size, most_lines, with_lines, why_code, lines_of}
use Rattle.reasons.proofs.Room.{lines_few, lines_some}
use Rattle.timeline.specs.{Timeline.{timed, timeline_code, timeline_events, most_events}, Unrolls.with_events, Running.in_turn}
use Rattle.timeline.proofs.{UnrollsTold.{no_events, events_none}, EventCounts.{events_few, events_whole}, Theorems.run_as_events}
use Rattle.monitor.specs.Told.{packed, told_code, told_domain, told_links, told_rule, told_offset, Stepped, answer_size, answer_bytes, answer_at}
use Rattle.monitor.specs.Told.{events_of, event_count, answered, Ran, why_packed, told_lines, line_at, Asked, timeline_packed, told_events, event_at}
use Rattle.monitor.specs.Told.{UnrolledFor}
use Rattle.monitor.proofs.RunLaws.{counted, answered_room}
use Rattle.monitor.proofs.Answers as Answers
use Rattle.monitor.proofs.WhyTold as Lines
use Rattle.monitor.proofs.TimelineTold as Timelines

-- ==== the number that monitor_open and monitor_step answer

-- code, domain and links stand in its lowest three bytes, where they stood before rule and offset came above them
pub low_bits_as_before : (a : Answer) → a.code < 256 → a.domain < 256 → a.links < 256
    → packed a % 16777216 ≡ (a.code * 256 + a.domain) * 256 + a.links
low_bits_as_before a c d k = Answers.low_bits a c d k

-- ==== monitor_open

module _ (l : List ℕ) (r : ℕ) (o : r ≡ packed (opened l)) where
  -- "code 1, domain 0 and links 0, the first broken rule, 1 to 8, and an offset": what the shifts give, and 0 for all of them where no rule is broken
  pub open_read : (told_code r ≡ «open» l)
      × (told_domain r ≡ 0)
      × (told_links r ≡ 0)
      × (told_rule r ≡ (fault l).rule)
      × (told_offset r ≡ fault_offset l)
  open_read =
      let u = Answers.unpacked (opened l) (Answers.opened_small l) in
      let t = opened_told l in
      rw o
      (u.0 ∙ ap (λ a. a.code) t, u.1 ∙ ap (λ a. a.domain) t, u.2 ∙ ap (λ a. a.links) t, u.3 ∙ ap (λ a. a.rule) t, u.4 ∙ ap (λ a. a.offset) t)

  -- "0 where the bytes are an image that keeps every rule", and nowhere else
  pub open_zero : (r ≡ 0) ↔ (accepted l ≡ true)
  open_zero =
      (λ z. no_fault_accepted l (sym open_read.3 ∙ ap told_rule z), λ a. o ∙ ap packed (opened_whole l a))

  -- "code 1", "the first broken rule, 1 to 8"
  pub open_refused : r ≢ 0 → (told_code r ≡ 1) × (told_rule r ≢ 0) × (told_rule r ≤ 8)
  open_refused n =
      let t = open_read in
      let a : accepted l ≢ true = λ a. n (open_zero.1 a) in
      (t.0 ∙ Answers.open_one l a, λ z. a (no_fault_accepted l (sym t.3 ∙ z)), rw t.3 (rule_known l))

-- ==== monitor_step

module _ (l v : List ℕ) (r : ℕ) (l' : List ℕ) (s : Stepped l v r l') where
  -- "The parts of what monitor_step answers": what the shifts give is the answer of the rules
  pub step_read : (told_code r ≡ (step l v).answer.code)
      × (told_domain r ≡ (step l v).answer.domain)
      × (told_links r ≡ (step l v).answer.links)
      × (told_rule r ≡ (step l v).answer.rule)
      × (told_offset r ≡ (step l v).answer.offset)
  step_read = rw s.answer (Answers.unpacked (step l v).answer (Answers.answer_small l v))

  code_read : told_code r ≡ code l v
  code_read = step_read.0 ∙ answer_code l v

  -- "every code but 0 leaves the image byte for byte and has domain 0 and links 0"
  pub step_kept : told_code r ≢ 0 → (l' ≡ l) × (told_domain r ≡ 0) × (told_links r ≡ 0)
  step_kept n =
      let t = step_read in
      let q = Answers.refused_quiet l v (λ z. n (code_read ∙ z)) in
      (s.image ∙ q.0, t.1 ∙ q.1, t.2 ∙ q.2)

  -- "Rule and offset are 0 for every code but 1, where they are those of monitor_open."
  pub step_where : (told_code r ≢ 1 → (told_rule r ≡ 0) × (told_offset r ≡ 0))
      × (told_code r ≡ 1 → (told_rule r ≡ (fault l).rule) × (told_offset r ≡ fault_offset l))
  step_where =
      let t = step_read in (
        λ n. let q = told_no_fault l v (λ z. n (code_read ∙ z)) in (t.3 ∙ q.0, t.4 ∙ q.1),
        λ z. let e = told_where l v (sym code_read ∙ z) in (t.3 ∙ ap (λ a. a.rule) e, t.4 ∙ ap (λ a. a.offset) e),
      )

-- ==== monitor_run

-- "An answer is six bytes: code, domain, links, rule, and the offset, high byte first."
pub answer_length : (a : Answer) → length (answer_bytes a) ≡ answer_size
answer_length a = refl

module _ (l b out : List ℕ) (r : ℕ) (l' out' : List ℕ) (s : Ran l b out r l' out') where
  -- "The events of a buffer one after the other, as monitor_step would answer them":
  -- the i-th answer is that of the i-th event on the image after those before it
  pub run_read : (i : ℕ) → i < r → answer_at out' i ≡ (step (run l (events_of b i)) (take event_size (drop (i * event_size) b))).answer
  run_read i h = ap (λ (o : List ℕ). answer_at o i) s.followed.told ∙ Answers.nth_told l b out r i h

  -- and the bytes behind the last answer are kept
  pub run_behind : (k : ℕ) → r * answer_size ≤ k → get_or out' k 0 ≡ get_or out k 0
  run_behind k h =
      let n = length_joined answer_bytes answer_size answer_length (answers l (events_of b r)) in
      let e = Answers.length_answers r l b in
      let c : r ≡ answered (length b) (length out) = s.count in
      let m : answered (length b) (length out) * answer_size ≤ length out = answered_room (length b) (length out) in
      ap (λ (o : List ℕ). get_or o k 0) s.followed.told
      ∙ get_or_put_after out 0 (joined answer_bytes (answers l (events_of b r))) k (omega arith) (omega arith)

-- "It stops where the events end or the answers have no room for six bytes more": there is room for every answer, there are no more of them than events,
module _ (n m : ℕ) where
  pub answered_fits : answered n m * answer_size ≤ m
  answered_fits = answered_room n m

  pub answered_asked : answered n m ≤ event_count n
  answered_asked = omega arith

  -- and no larger number keeps both
  pub answered_most : (k : ℕ) → k * answer_size ≤ m → k ≤ event_count n → k ≤ answered n m
  answered_most k h a = omega arith

-- "Bytes left over at the end of the events are one event": n bytes are as many events as records that hold them, and no more
pub events_counted : (n : ℕ) → (n ≤ event_count n * event_size) × ((k : ℕ) → n ≤ k * event_size → event_count n ≤ k)
events_counted n = let c = counted n in (c.0, λ k h. omega arith)

-- "a caller with little room goes on at 24 times that number": n events and then m are n + m events, in the image and in the answers
pub goes_on : (l b : List ℕ) (n m : ℕ)
    → (run l (events_of b (n + m)) ≡ run (run l (events_of b n)) (events_of (drop (n * event_size) b) m))
    × (answers l (events_of b (n + m)) ≡ answers l (events_of b n) ++ answers (run l (events_of b n)) (events_of (drop (n * event_size) b) m))
goes_on l b n m = (Answers.run_further l b n m, Answers.answers_further l b n m)

-- ==== monitor_why

module _ (l : List ℕ) (n : ℕ) (out : List ℕ) (r : ℕ) (out' : List ℕ) (s : Asked l n out r out') where
  -- "The parts of what monitor_why answers": what the shifts give; rule and offset are those of monitor_open
  pub why_read : (told_lines r ≡ length (lines_of l n))
      × (told_code r ≡ why_code l n)
      × (told_rule r ≡ (fault l).rule)
      × (told_offset r ≡ fault_offset l)
  why_read = rw s.answer (Lines.why_unpacked l n)

  code_asked : told_code r ≡ why_code l n
  code_asked = why_read.1

  -- "the number that monitor_open answers" where the image is not accepted
  pub why_opened : accepted l ≢ true → r ≡ packed (opened l)
  why_opened h = s.answer ∙ Lines.why_opened l n h

  -- "1 to 64 lines" for code 0, which are the explanation of 02, item 2
  pub why_told : told_code r ≡ 0 → (lines_of l n ≡ explanation (decode l) n) × (1 ≤ told_lines r) × (told_lines r ≤ most_lines)
  why_told z =
      let c = sym code_asked ∙ z in
      (Lines.lines_granted l n c, rw why_read.0 (lines_some l n c), rw why_read.0 (lines_few l n))

  -- "every other code has none and leaves the buffer byte for byte"
  pub why_kept : told_code r ≢ 0 → (out' ≡ out) × (told_lines r ≡ 0)
  why_kept h =
      let e = Lines.lines_refused l n (λ z. h (code_asked ∙ z)) in
      (s.told ∙ Lines.none_told out (lines_of l n) e, why_read.0 ∙ ap length e)

  -- "MONITOR_WHY_SIZE bytes have room for every line"
  pub why_whole : most_lines * line_size ≤ length out → out' ≡ with_lines out (lines_of l n)
  why_whole h = s.told ∙ Lines.all_told out (lines_of l n) (lines_few l n) h

  -- in any buffer the i-th line, the first one counted 0, is told where it ends within the buffer,
  pub why_line : (i : ℕ) → i < told_lines r → i * line_size + line_size ≤ length out → line_at out' i ≡ get_or (lines_of l n) i (line 0 0)
  why_line i h room =
      let k = why_read.0 in
      ap (λ (o : List ℕ). line_at o i) s.told ∙ Lines.line_read out (lines_of l n) i (omega arith) room

  -- and the bytes behind the last that is told are kept
  pub why_behind : (k : ℕ) → min (told_lines r) (length out / line_size) * line_size ≤ k → get_or out' k 0 ≡ get_or out k 0
  why_behind k h =
      let e = why_read.0 in
      ap (λ (o : List ℕ). get_or o k 0) s.told ∙ Lines.line_behind out (lines_of l n) k (omega arith)

-- ==== monitor_timeline

module _ (l t b : List ℕ) (r : ℕ) (b' : List ℕ) (s : UnrolledFor l t b r b') where
  -- "The parts of what monitor_timeline answers": what the shifts give; rule and offset are those of monitor_open
  pub timeline_read : (told_events r ≡ length (timeline_events l t))
      × (told_code r ≡ timeline_code l t)
      × (told_rule r ≡ (fault l).rule)
      × (told_offset r ≡ fault_offset l)
  timeline_read = rw s.answer (Timelines.timeline_unpacked l t)

  count_read : told_events r ≡ length (timeline_events l t)
  count_read = timeline_read.0

  -- "the number that monitor_open answers" where the image is not accepted
  pub timeline_opened : accepted l ≢ true → r ≡ packed (opened l)
  timeline_opened h = s.answer ∙ Timelines.timeline_opened l t h

  -- for code 0 at most 2,000 events, which are those that 02, item 6, runs record by record, by the clock that the phone has then
  pub timeline_told : told_code r ≡ 0 → (timeline_events l t ≡ in_turn l (timed t)) × (told_events r ≤ most_events)
  timeline_told z = (sym (run_as_events l t (sym timeline_read.1 ∙ z)), rw count_read (events_few l t))

  -- "Every code but 0 has no events and leaves the buffer byte for byte."
  pub timeline_kept : told_code r ≢ 0 → (b' ≡ b) × (told_events r ≡ 0)
  timeline_kept h =
      let e = events_none l t (λ z. h (timeline_read.1 ∙ z)) in
      (s.events ∙ ap (with_events b) e ∙ sym (no_events b), count_read ∙ ap length e)

  -- "MONITOR_EVENTS_SIZE bytes have room for every one"
  pub timeline_room : most_events * event_size ≤ length b → told_events r * event_size ≤ length b
  timeline_room h = let few = events_few l t in let k = count_read in omega arith

  -- in any buffer the i-th event, the first one counted 0, is told where it ends within the buffer,
  pub timeline_event : (i : ℕ) → i < told_events r → i * event_size + event_size ≤ length b → event_at b' i ≡ get_or (timeline_events l t) i []
  timeline_event i h room =
      let k = count_read in
      ap (λ b. event_at b i) s.events ∙ Timelines.event_read b (timeline_events l t) (events_whole l t) i (omega arith) room

  -- and the bytes behind the last that is told are kept
  pub timeline_behind : (k : ℕ) → min (told_events r) (length b / event_size) * event_size ≤ k → get_or b' k 0 ≡ get_or b k 0
  timeline_behind k h =
      let e = count_read in
      ap (λ b. get_or b k 0) s.events ∙ Timelines.event_behind b (timeline_events l t) (events_whole l t) k (omega arith)

  -- "Running the timeline is monitor_run on them": where the buffer has room for every event and another for every answer
  pub timeline_run : told_events r * event_size ≤ length b
      → (out : List ℕ) → told_events r * answer_size ≤ length out
      → (n : ℕ) (l' out' : List ℕ) → Ran l (take (told_events r * event_size) b') out n l' out'
      → (n ≡ told_events r) × (l' ≡ run l (timeline_events l t)) × (out' ≡ put out 0 (joined answer_bytes (answers l (timeline_events l t))))
  timeline_run room out h n l' out' ran =
      let vs = timeline_events l t in
      let k = count_read in
      let whole = events_whole l t in
      let there : take (told_events r * event_size) b' ≡ joined (λ v. v) vs =
      ap (λ n. take (n * event_size) b') k ∙ ap (take (length vs * event_size)) s.events ∙ Timelines.all_placed b vs whole (omega arith) in
      let q = Timelines.run_whole l (take (told_events r * event_size) b') out vs whole there (omega arith) ran in
      (q.0 ∙ sym k, q.1, q.2)

-- ==== computed

abbrev granted : Answer
granted = record { code = 0; domain = 1; links = 2; rule = 0; offset = 0 }

abbrev damaged : Answer
damaged = record { code = 1; domain = 0; links = 0; rule = 4; offset = 88 }

-- a grant to an operator's application over two links, and a request that the table refuses
pub packed_granted : (packed granted ≡ 0x000102) × (told_code 0x000102 ≡ 0) × (told_domain 0x000102 ≡ 1) × (told_links 0x000102 ≡ 2)
packed_granted = (refl, refl, refl, refl)

pub packed_refused : (packed (refused 15) ≡ 0x0f0000) × (told_code 0x0f0000 ≡ 15) × (told_domain 0x0f0000 ≡ 0) × (told_links 0x0f0000 ≡ 0)
packed_refused = (refl, refl, refl, refl)

-- an image whose third certificate breaks I4
pub packed_damaged : (packed damaged ≡ 0x0058_04_010000)
    × (told_code 0x0058_04_010000 ≡ 1)
    × (told_domain 0x0058_04_010000 ≡ 0)
    × (told_links 0x0058_04_010000 ≡ 0)
    × (told_rule 0x0058_04_010000 ≡ 4)
    × (told_offset 0x0058_04_010000 ≡ 88)
packed_damaged = (refl, refl, refl, refl, refl, refl)

-- the bytes of a grant, and the second answer of two
pub bytes_granted : (answer_bytes granted ≡ bytes 6 0x00_01_02_00_00_00) × (answer_at (bytes 12 0x0f_00_00_00_00_00_00_01_02_00_00_00) 1 ≡ granted)
bytes_granted = (refl, refl)

-- those of a damaged image, told at both of two events, and an offset that needs its high byte
pub bytes_damaged : (answer_bytes damaged ≡ bytes 6 0x01_00_00_04_00_58) × (answer_at (bytes 12 0x01_00_00_04_00_58_01_00_00_04_00_58) 1 ≡ damaged)
bytes_damaged = (refl, refl)

pub bytes_far : (answer_at (bytes 6 0x01_00_00_08_09_d0) 0).offset ≡ 2512
bytes_far = refl

-- the 14 events of 01's run with room for all of them, with a byte less, and without the last byte of the last
pub answered_all : answered 336 84 ≡ 14
answered_all = refl

pub answered_fewer : answered 336 83 ≡ 13
answered_fewer = refl

pub counted_short : (event_count 335 ≡ 14) × (event_count 337 ≡ 15) × (event_count 0 ≡ 0)
counted_short = (refl, refl, refl)

-- two lines, and a damaged image, whose number is that of opening it
pub packed_lines : (why_packed (Ok 2) ≡ 0x0002) × (told_lines 0x0002 ≡ 2) × (told_code 0x0002 ≡ 0)
packed_lines = (refl, refl, refl)

pub packed_why_damaged : why_packed (Err damaged) ≡ packed damaged
packed_why_damaged = refl

-- a chain of two, the root's id 10 and the signer's 300: the second line
pub lines_chain : line_at (bytes 6 0x01_00_0a_01_01_2c) 1 ≡ line said_link 300
lines_chain = refl

-- the six events of a timeline, one that is refused, and a damaged image, whose number is that of opening it
pub packed_events : (timeline_packed (Ok 6) ≡ 0x0006) × (told_events 0x0006 ≡ 6) × (told_code 0x0006 ≡ 0)
packed_events = (refl, refl, refl)

pub packed_untimely : (timeline_packed (Err (record { code = 19; domain = 0; links = 0; rule = 0; offset = 0 })) ≡ 0x130000)
    × (told_events 0x130000 ≡ 0)
    × (told_code 0x130000 ≡ 19)
packed_untimely = (refl, refl, refl)

pub packed_timeline_damaged : timeline_packed (Err damaged) ≡ packed damaged
packed_timeline_damaged = refl
