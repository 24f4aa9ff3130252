-- What is told of a timeline and its events in a buffer. Definitions only.
use Rattle.std.specs.Prelude.{ℕ, ◌+◌, ◌*◌, ◌/◌, Result, Ok, Err}
use mathlib.Core.{Bool.cond, List.{List, [], ◌∷◌}, Path.◌≡◌}
use lib.{Dec.{eqb, ltb}, ListN.{length, take}}
use Rattle.octets.specs.Octets.{put}
use Rattle.records.specs.{Sizes.event_size, Phone.joined}
use Rattle.rules.specs.{declared.Answer.Answer, Step.opened, AcceptedImage.AcceptedImage}
use Rattle.timeline.specs.Timeline.{timeline_code, timeline_events}

-- how many whole events a buffer has room for
abbrev pub room : List ℕ → ℕ
room b = length b / event_size

-- v as the n-th event of a buffer, the first counted 0, where there is room for it
abbrev pub with_event : List ℕ → ℕ → List ℕ → List ℕ
with_event b n v = cond (ltb n (room b)) (put b (n * event_size) v) b

-- and more of them from there on
abbrev pub with_more : List ℕ → ℕ → List (List ℕ) → List ℕ
with_more b n [] = b
with_more b n (v ∷ vs) = with_more (with_event b n v) (n + 1) vs

-- events one after the other, as many as there is room for
abbrev pub with_events : List ℕ → List (List ℕ) → List ℕ
with_events b vs = put b 0 (joined (λ v. v) (take (room b) vs))

-- what opening tells, with another code
abbrev pub with_code : ℕ → Answer → Answer
with_code code told = record { code = code; domain = 0; links = 0; rule = told.rule; offset = told.offset }

-- how many events there are, or code 1 or 19; for 1 the broken rule and where
unfoldable pub unroll : List ℕ → List ℕ → Result ℕ Answer
unroll l t = cond (eqb (timeline_code l t) 0) (Ok (length (timeline_events l t))) (Err (with_code (timeline_code l t) (opened l)))

pub record Unrolls (l t b : List ℕ) (r : Result ℕ Answer) (b' : List ℕ) : Type 0 where
  pub answer : r ≡ unroll l t
  pub events : b' ≡ with_events b (timeline_events l t)
  pub promise : {n : ℕ} → r ≡ Ok n → AcceptedImage l
