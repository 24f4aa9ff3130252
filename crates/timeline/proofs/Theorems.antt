-- THE THEOREMS about timelines. Each sentence of 02, item 6, with its statement; Clock holds the arguments. Assumes nothing.
-- l is an image and t a timeline, both any bytes. What the statements speak of: `timeline_code`, `timeline_events`, `timed` (specs/Timeline),
-- `in_turn`, `met`, `met_by_event` (specs/Running), `run`, `answers`, `code` (rules, specs/Step and Codes).
use Prim.Native.Nat.{ℕ, ◌≤◌}
use mathlib.Core.{Bool.{true, false}, List.{List, [], ◌∷◌, ◌++◌}, Logic.{◌≢◌, ◌↔◌}, Path.{◌≡◌, ap}}
use Rattle.records.specs.Layout.{event_bytes}
use Rattle.rules.specs.{ImageRules.accepted, Codes.code, Step.{run, answers}}
use Rattle.timeline.specs.Timeline.{Timed, timed, timeline_fits, clock_event, clock_of, timeline_code, timeline_events}
use Rattle.timeline.specs.Running.{in_turn, met, met_by_event}
use Rattle.timeline.proofs.TimelineCodes as Codes
use Rattle.timeline.proofs.Clock as Clock

module _ (l t : List ℕ) where
  -- "a timeline that breaks its form is refused whole with new code 19, after 1": each of the three codes exactly where it is given
  pub code_zero : (timeline_code l t ≡ 0) ↔ ((accepted l ≡ true) × (timeline_fits (clock_of l) t ≡ true))
  code_zero = Codes.zero_exact l t

  pub code_one : (timeline_code l t ≡ 1) ↔ (accepted l ≡ false)
  code_one = Codes.one_exact l t

  pub code_nineteen : (timeline_code l t ≡ 19) ↔ ((accepted l ≡ true) × (timeline_fits (clock_of l) t ≡ false))
  code_nineteen = Codes.nineteen_exact l t

  -- "and before any event": a timeline that is refused changes nothing and answers nothing
  pub refused_unchanged : timeline_code l t ≢ 0 → (run l (timeline_events l t) ≡ l) × (answers l (timeline_events l t) ≡ [])
  refused_unchanged h = Codes.nothing_run l t h

  module _ (h : timeline_code l t ≡ 0) where
    -- "Running it equals running its events in order with a clock event put in wherever the next second is above the clock.": the events as they
    -- are run, by the clock that the phone has then, are those that are put in; so are answers and image
    pub run_as_events : in_turn l (timed t) ≡ timeline_events l t
    run_as_events = Codes.in_turn_events l t h

    pub same_image : run l (in_turn l (timed t)) ≡ run l (timeline_events l t)
    same_image = ap (run l) run_as_events

    pub same_answers : answers l (in_turn l (timed t)) ≡ answers l (timeline_events l t)
    same_answers = ap (answers l) run_as_events

    module _ (before : List Timed) (x : Timed) (rest : List Timed) (s : timed t ≡ before ++ (x ∷ rest)) where
      -- "Seconds never fall": no record comes before the clock of the phone that it meets
      pub never_back : clock_of (met l before) ≤ x.second
      never_back = Clock.never_back (met l before) x (Codes.meets_record l t h before x rest s)

      -- so a clock event that is put in is never refused
      pub clock_event_done : code (met l before) (event_bytes (clock_event x.second)) ≡ 0
      clock_event_done = Clock.put_in_done (met l before) x (Codes.meets_record l t h before x rest s)

      -- and the clock of the phone is the record's second when its event is met
      pub clock_is_second : clock_of (met_by_event (met l before) x) ≡ x.second
      clock_is_second = Clock.clock_at_event (met l before) x (Codes.meets_record l t h before x rest s)
