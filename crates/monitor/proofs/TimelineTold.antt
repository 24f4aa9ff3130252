-- An answer about a timeline: what the number and the events in the buffer tell, and a run of these events. Assumes nothing.
use Prim.Native.Nat.{ℕ, zero, suc, ◌+◌, ◌*◌, ◌≤◌, ◌<◌, min}
use mathlib.Core.{Bool.{Bool, true, false, cond}, List.{List, [], ◌∷◌, ◌++◌, append_assoc, append-nil}, Logic.◌≢◌, Path.{◌≡◌, refl, sym, ap, ap₂, subst, ◌∙◌}}
use native.{Mathlib.Nat.zero-mul, Mathlib.Omega.arith}
use borrow.Author.Tests.{eq-eqb, ne_eqb}
use lib.{Dec.{eqb, eqb→eq}, ListN.{length, get_or, take, drop, length-take}, Seq.{take_all, take_at, drop_at, get_or-take, drop-drop}}
use Rattle.octets.specs.Octets.{put}
use Rattle.octets.proofs.ByteLaws.{get_or_put_after}
use Rattle.records.specs.{Sizes.event_size, Phone.joined}
use Rattle.rules.specs.{declared.Answer.Answer, ImageRules.{accepted, «open»}, Faults.{fault, fault_offset}}
use Rattle.rules.specs.Step.{answer_done, refused_at, opened, run, answers}
use Rattle.laws.proofs.Tests.{neqb→ne, by_test}
use Rattle.laws.proofs.Where.{rule_known, offset_small}
use Rattle.opening.proofs.Offsets.{opened_told}
use Rattle.std.specs.Prelude.{Result, Ok, Err, IfOk}
use Rattle.timeline.specs.{Timeline.{timeline_code, timeline_events}, Unrolls.{room, with_events, with_code, unroll, Unrolls}}
use Rattle.timeline.proofs.{EventsPlaced.Whole, UnrollsTold.{code_broken, events_none}, TimelineCodes.code_most}
use Rattle.timeline.proofs.EventCounts.{whole_take, length_whole, placed_within, events_few}
use Rattle.monitor.specs.Told.{packed, told_code, told_rule, told_offset, answer_size, answer_bytes, events_of, Ran, timeline_packed, told_events}
use Rattle.monitor.specs.Told.{event_at, UnrolledFor}
use Rattle.monitor.proofs.{RunLaws.counted, Answers.open_one}

-- ---- the code that tells it

-- what `pack_count` asks
pub few_events : (l t b : List ℕ) {r : Result ℕ Answer} {b' : List ℕ} → Unrolls l t b r b' → IfOk r (λ k. k < 65536)
unfolding unroll
few_events l t b {r} x = subst (λ r. IfOk r (λ k. k < 65536)) (sym x.answer) (go (eqb (timeline_code l t) 0))
  where
    go : (c : Bool) → IfOk (cond c (Ok (length (timeline_events l t))) (Err (with_code (timeline_code l t) (opened l)))) (λ k. k < 65536)
    go true = let few = events_few l t in omega arith
    go false = tt

pub unrolled_for : (l t b : List ℕ) {u : Result ℕ Answer} {r : ℕ} {b' : List ℕ} → Unrolls l t b u b' → r ≡ timeline_packed u → UnrolledFor l t b r b'
unrolled_for l t b x q = record { answer = q ∙ ap timeline_packed x.answer; events = x.events }

-- ---- the number

module _ (l t : List ℕ) where
  -- an image whose timeline is not refused breaks no rule
  unbroken : timeline_code l t ≡ 0 → ((fault l).rule ≡ 0) × (fault_offset l ≡ 0)
  unfolding opened
  unbroken z = go (accepted l) refl
    where
      go : (y : Bool) → accepted l ≡ y → ((fault l).rule ≡ 0) × (fault_offset l ≡ 0)
      go true e =
          let q = sym (opened_told l) ∙ ap (λ b. cond b (answer_done 0 0) (refused_at l)) e in
          (ap (λ a. a.rule) q, ap (λ a. a.offset) q)
      go false e = let c = code_broken l t e in absurd (omega arith)

  -- rule and offset are those of opening, whatever the code
  timeline_told : timeline_packed (unroll l t)
      ≡ ((fault_offset l * 256 + (fault l).rule) * 256 + timeline_code l t) * 65536 + length (timeline_events l t)
  unfolding unroll
  timeline_told =
      by_test (eqb (timeline_code l t) 0)
      (λ h. let z = eqb→eq (timeline_code l t) 0 h in
      let s = unbroken z in
      ap timeline_packed (ap packed_if (eq-eqb _ 0 z)) ∙ omega (arith, s.0, s.1))
      (λ h. let n = neqb→ne (timeline_code l t) 0 h in
      let none = ap length (events_none l t n) in
      ap timeline_packed (ap packed_if (ne_eqb _ 0 n)) ∙ ap (λ a. timeline_packed (Err (with_code (timeline_code l t) a))) (opened_told l) ∙ omega arith)
    where
      packed_if : Bool → Result ℕ Answer
      packed_if b = cond b (Ok (length (timeline_events l t))) (Err (with_code (timeline_code l t) (opened l)))

  -- each part is read back
  pub timeline_unpacked : let m = timeline_packed (unroll l t) in
      (told_events m ≡ length (timeline_events l t)) × (told_code m ≡ timeline_code l t) × (told_rule m ≡ (fault l).rule) × (told_offset m ≡ fault_offset l)
  timeline_unpacked =
      let k = events_few l t in
      let c = code_most l t in
      let r : (fault l).rule ≤ 8 = rule_known l in
      let o : fault_offset l < 65536 = offset_small l in
      let e = timeline_told in
      (ap told_events e ∙ omega arith, ap told_code e ∙ omega arith, ap told_rule e ∙ omega arith, ap told_offset e ∙ omega arith)

  -- an image that is not accepted
  pub timeline_opened : accepted l ≢ true → timeline_packed (unroll l t) ≡ packed (opened l)
  timeline_opened h = go (accepted l) refl
    where
      go : (y : Bool) → accepted l ≡ y → timeline_packed (unroll l t) ≡ packed (opened l)
      go true e = absurd (h e)
      go false e =
          let c = code_broken l t e in
          let z : length (timeline_events l t) ≡ 0 = ap length (events_none l t (λ z. omega arith)) in
          let o : «open» l ≡ 1 = open_one l h in
          timeline_told ∙ omega arith ∙ sym (ap packed (opened_told l))

-- ---- a buffer of events

-- whole events one behind the other, read back
events_back : (vs : List (List ℕ)) (ys : List ℕ) → Whole vs → events_of (joined (λ v. v) vs ++ ys) (length vs) ≡ vs
events_back [] ys f = refl
events_back (v ∷ vs) ys f =
    let rest = joined (λ v. v) vs ++ ys in
    ap (λ b. take event_size b ∷ events_of (drop event_size b) (length vs)) (append_assoc v (joined (λ v. v) vs) ys)
    ∙ ap₂ (λ x b. x ∷ events_of b (length vs)) (take_at v rest event_size f.0) (drop_at v rest event_size f.0)
    ∙ ap (λ ws. v ∷ ws) (events_back vs ys f.1)

-- the i-th of the events of a buffer
nth_event : (n : ℕ) (b : List ℕ) (i : ℕ) → i < n → get_or (events_of b n) i [] ≡ event_at b i
nth_event zero b i h = absurd (omega arith)
nth_event (suc n) b zero h = ap (λ m. take event_size (drop m b)) (sym (zero-mul event_size))
nth_event (suc n) b (suc i) h =
    let j : event_size + i * event_size ≡ suc i * event_size = omega arith in
    nth_event n (drop event_size b) i (omega arith) ∙ ap (take event_size) (drop-drop (i * event_size) event_size b ∙ ap (λ m. drop m b) j)

-- of vs, whole events, those that buffer b has room for
module _ (b : List ℕ) (vs : List (List ℕ)) (f : Whole vs) where
  abbrev some : List (List ℕ)
  some = take (room b) vs

  -- they can be read back,
  events_placed : events_of (with_events b vs) (length some) ≡ some
  unfolding put
  events_placed = events_back some (drop (0 + length (joined (λ v. v) some)) b) (whole_take (room b) vs f)

  pub event_read : (i : ℕ) → i < length vs → i * event_size + event_size ≤ length b → event_at (with_events b vs) i ≡ get_or vs i []
  event_read i h k =
      let few = length-take (room b) vs in
      sym (nth_event (length some) (with_events b vs) i (omega arith))
      ∙ ap (λ ws. get_or ws i []) events_placed
      ∙ get_or-take (room b) vs i [] (omega arith)

  -- and the bytes behind them are kept
  pub event_behind : (k : ℕ) → min (length vs) (room b) * event_size ≤ k → get_or (with_events b vs) k 0 ≡ get_or b k 0
  event_behind k h =
      let few = length-take (room b) vs in
      let size = length_whole some (whole_take (room b) vs f) in
      let within = placed_within b vs f in
      get_or_put_after b 0 (joined (λ v. v) some) k (omega arith) (omega arith)

  -- with room for all of them they are the first bytes of the buffer
  pub all_placed : length vs * event_size ≤ length b → take (length vs * event_size) (with_events b vs) ≡ joined (λ v. v) vs
  unfolding put
  all_placed h =
      let all : some ≡ vs = take_all (room b) vs (omega arith) in
      let n = length vs * event_size in
      ap (λ ws. take n (put b 0 (joined (λ v. v) ws))) all
      ∙ take_at (joined (λ v. v) vs) (drop (0 + length (joined (λ v. v) vs)) b) n (length_whole vs f)

-- ---- a run of them

-- a run on whole events, where there is room for every answer, is the run of these events
pub run_whole : (l c out : List ℕ) {r : ℕ} {l' out' : List ℕ} (vs : List (List ℕ)) → Whole vs → c ≡ joined (λ v. v) vs
    → length vs * answer_size ≤ length out → Ran l c out r l' out'
    → (r ≡ length vs) × (l' ≡ run l vs) × (out' ≡ put out 0 (joined answer_bytes (answers l vs)))
run_whole l c out {r} vs f e h s =
    let size : length c ≡ length vs * event_size = ap length e ∙ length_whole vs f in
    let count = counted (length c) in
    let n : r ≡ length vs = s.count ∙ omega arith in
    let same : events_of c r ≡ vs =
    ap₂ events_of (e ∙ sym (append-nil (joined (λ v. v) vs))) n ∙ events_back vs [] f in
    (n, s.followed.image ∙ ap (run l) same, s.followed.told ∙ ap (λ ws. put out 0 (joined answer_bytes (answers l ws))) same)
