-- Timelines computed: the worked run of 01 as one, and forms that are broken. Assumes nothing.
use Rattle.std.specs.Prelude.{ℕ}
use mathlib.Core.{List.{List, [], ◌∷◌, ◌++◌, map}, Path.{◌≡◌, refl}}
use Rattle.std.specs.Prelude.{get_or, take}
use Rattle.octets.specs.Octets.{bytes, put}
use Rattle.rules.specs.{Step.answers, Computing.computing, WorkedRun.{image, events, lines}}
use Rattle.timeline.specs.Timeline.{timeline_framed, timed_fits, in_time, unrolled, timeline_code, timeline_events}

-- a record of second s with event n of the run, counted from 0 on
abbrev at_second : ℕ → ℕ → List ℕ
at_second s n = bytes 4 s ++ (bytes 4 0 ++ get_or events n [])

-- events 1, 3, 5 and 6 of the run, at the seconds 100, 200, 201 and 201: the clock events 2 and 4 are put in, before the first and the last is none
abbrev pub timed_run : List ℕ
timed_run = bytes 8 0x0001_0004_00000008 ++ (at_second 100 0 ++ (at_second 200 2 ++ (at_second 201 4 ++ at_second 201 5)))

pub run_fits : timeline_code image timed_run ≡ 0
unfolding computing timeline_framed timed_fits in_time timeline_code
run_fits = refl

-- the events that are run are the run's first six, and so are the answers
pub first_six : timeline_events image timed_run ≡ take 6 events
unfolding computing timeline_framed timed_fits in_time timeline_code timeline_events unrolled
first_six = refl

pub as_in_the_run : answers image (timeline_events image timed_run) ≡ take 6 lines
unfolding computing timeline_framed timed_fits in_time timeline_code timeline_events unrolled
as_in_the_run = refl

-- "exactly that many records": none is a number, too
pub no_records : timeline_code image (bytes 8 0x0001_0000_00000008) ≡ 0
unfolding computing timeline_framed timed_fits in_time timeline_code
no_records = refl

-- one thing wrong in each: nothing at all, a header cut short, version 2, a record more or less than is told, offset 9, a byte too few and one too many,
-- a first second below the clock, one that falls, a word that is not zero, an event of kind 1
abbrev pub broken_forms : List (List ℕ)
broken_forms =
    []
    ∷ take 7 timed_run
    ∷ put timed_run 0 (bytes 2 2)
    ∷ put timed_run 2 (bytes 2 5)
    ∷ put timed_run 2 (bytes 2 3)
    ∷ put timed_run 4 (bytes 4 9)
    ∷ take 135 timed_run
    ∷ (timed_run ++ (0 ∷ []))
    ∷ put timed_run 8 (bytes 4 99)
    ∷ put timed_run 104 (bytes 4 200)
    ∷ put timed_run 76 (bytes 4 1)
    ∷ put timed_run 80 (bytes 1 1)
    ∷ []

pub each_nineteen : map (timeline_code image) broken_forms ≡ map (λ t. 19) broken_forms
unfolding computing put timeline_framed timed_fits in_time timeline_code
each_nineteen = refl
