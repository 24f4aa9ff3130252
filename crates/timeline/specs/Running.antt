-- 02, item 6: a timeline run record by record, by the clock that the phone has then. Definitions only.
use Rattle.std.specs.Prelude.{ℕ}
use mathlib.Core.{Bool.cond, List.{List, [], ◌∷◌, ◌++◌}}
use Rattle.std.specs.Prelude.{ltb}
use Rattle.records.specs.Layout.{event_bytes}
use Rattle.rules.specs.Step.{run}
use Rattle.timeline.specs.Timeline.{Timed, clock_event, record_events, unrolled, clock_of}

-- "a clock event put in wherever the next second is above the clock": the events as they are run from image l on, each clock that of the image met
unfoldable pub in_turn : List ℕ → List Timed → List (List ℕ)
in_turn l [] = []
in_turn l (x ∷ r) = record_events (clock_of l) x ++ in_turn (run l (record_events (clock_of l) x)) r

-- the image that the record behind these meets
abbrev pub met : List ℕ → List Timed → List ℕ
met l before = run l (unrolled (clock_of l) before)

-- and the one that its event meets, behind the clock event where one is put in
abbrev pub met_by_event : List ℕ → Timed → List ℕ
met_by_event l x = run l (cond (ltb (clock_of l) x.second) (event_bytes (clock_event x.second) ∷ []) [])
