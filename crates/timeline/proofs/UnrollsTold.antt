-- What is told of a timeline: where the image is broken, where the timeline does not fit it, and where it does. Assumes nothing.
use Prim.Native.Nat.{ℕ}
use mathlib.Core.{Bool.{Bool, true, false, true≢false}, List.{List, []}, Logic.◌≢◌, Path.{◌≡◌, sym, ap, ◌∙◌}}
use native.Mathlib.Omega.{arith}
use borrow.Author.Tests.{eq-eqb, ne_eqb}
use lib.{ListN.length, Seq.take-nil}
use Rattle.octets.specs.Octets.{put}
use Rattle.octets.proofs.ByteLaws.{put_none}
use Rattle.records.specs.{Phone.joined}
use Rattle.rules.specs.{declared.Answer.Answer, declared.Fault.Fault, Words.first, ImageRules.accepted, Step.opened}
use Rattle.rules.specs.AcceptedImage.{AcceptedImage}
use Rattle.laws.proofs.Where.{opened_whole}
use Rattle.std.specs.Prelude.{Result, Ok, Err, is_err}
use Rattle.opening.specs.Opened.{Opened}
use Rattle.opening.proofs.Opens.{accepted_where, refused_where}
use Rattle.timeline.specs.Timeline.{timed, timeline_fits, clock_of, unrolled, timeline_code, timeline_events}
use Rattle.timeline.specs.Unrolls.{room, with_events, with_code, unroll, Unrolls}

-- with no events a buffer stays as it was
pub no_events : (b : List ℕ) → b ≡ with_events b []
no_events b = sym (put_none b 0) ∙ ap (λ vs. put b 0 (joined (λ v. v) vs)) (sym (take-nil (room b)))

-- ---- the code and the events

module _ (l t : List ℕ) where
  -- of an image that is broken
  pub code_broken : accepted l ≡ false → timeline_code l t ≡ 1
  unfolding timeline_code first
  code_broken a = rw a

  -- of a timeline that does not fit it
  code_unfit : accepted l ≡ true → timeline_fits (clock_of l) t ≡ false → timeline_code l t ≡ 19
  unfolding timeline_code first
  code_unfit a h = rw (a, h)

  -- of one that does
  code_fits : accepted l ≡ true → timeline_fits (clock_of l) t ≡ true → timeline_code l t ≡ 0
  unfolding timeline_code first
  code_fits a h = rw (a, h)

  -- there are none behind another code than 0
  pub events_none : timeline_code l t ≢ 0 → timeline_events l t ≡ []
  unfolding timeline_events
  events_none h = rw (ne_eqb (timeline_code l t) 0 h)

  -- and all behind code 0
  pub events_all : timeline_code l t ≡ 0 → timeline_events l t ≡ unrolled (clock_of l) (timed t)
  unfolding timeline_events
  events_all h = rw (eq-eqb (timeline_code l t) 0 h)

  -- ---- the answer

  -- of a timeline that is refused, with code c
  refused_so : {c : ℕ} → timeline_code l t ≡ c → c ≢ 0 → Err (with_code c (opened l)) ≡ unroll l t
  unfolding unroll
  refused_so e h = rw (e, ne_eqb _ 0 h)

  -- of one that is not
  counted_so : timeline_code l t ≡ 0 → {n : ℕ} → n ≡ length (timeline_events l t) → Ok n ≡ unroll l t
  unfolding unroll
  counted_so e q = ap Ok q ∙ rw e

-- an image that is refused is told code 1
told_one : (l : List ℕ) → accepted l ≡ false → opened l ≡ with_code 1 (opened l)
unfolding opened
told_one l h = rw h

-- ---- what is told

-- q is what opening the image gave
module _ (l t b : List ℕ) {q : Result Unit Fault} (o : Opened l q) {z : Bool} (e : z ≡ is_err q) where
  -- the image is broken
  pub unrolls_broken : z ≡ true → {a : Answer} → a ≡ opened l → Unrolls l t b (Err a) b
  unrolls_broken h p =
      let broken = refused_where o e h in
      let c = code_broken l t broken in
      let none = events_none l t (λ z. omega arith) in
      record {
        answer = ap Err (p ∙ told_one l broken) ∙ refused_so l t c (λ z. omega arith);
        events = no_events b ∙ ap (with_events b) (sym none);
        promise = λ r. absurd (true≢false (ap is_err r));
      }

  -- it is accepted; k is its clock, and y whether the timeline fits it
  module _ (h : z ≡ false) {k : ℕ} (clock : k ≡ clock_of l) {y : Bool} (fits : y ≡ timeline_fits k t) where
    abbrev image : AcceptedImage l
    image = accepted_where o e h

    -- the timeline and the image's own clock
    fits_clock : timeline_fits (clock_of l) t ≡ y
    fits_clock = ap (λ k. timeline_fits k t) (sym clock) ∙ sym fits

    -- where it does not fit
    pub unrolls_unfit : y ≡ false → Unrolls l t b (Err (record { code = 19; domain = 0; links = 0; rule = 0; offset = 0 })) b
    unrolls_unfit n =
        let c = code_unfit l t image.accepted (fits_clock ∙ n) in
        let none = events_none l t (λ z. omega arith) in
        record {
          answer = ap (λ a. Err (with_code 19 a)) (sym (opened_whole l image.accepted)) ∙ refused_so l t c (λ z. omega arith);
          events = no_events b ∙ ap (with_events b) (sym none);
          promise = λ r. absurd (true≢false (ap is_err r));
        }

    -- and where it does
    pub unrolls_fit : y ≡ true → {b' : List ℕ} {n : ℕ} → b' ≡ with_events b (unrolled k (timed t)) → n ≡ length (unrolled k (timed t))
        → Unrolls l t b (Ok n) b'
    unrolls_fit n p q =
        let c = code_fits l t image.accepted (fits_clock ∙ n) in
        let all : unrolled k (timed t) ≡ timeline_events l t = ap (λ k. unrolled k (timed t)) clock ∙ sym (events_all l t c) in
        record { answer = counted_so l t c (q ∙ ap length all); events = p ∙ ap (with_events b) all; promise = λ r. image }
