-- 02, item 6: a lesson's timeline, its form, and the events that it stands for. Definitions only.
use Rattle.std.specs.Prelude.{ℕ, ◌+◌, ◌*◌}
use mathlib.Core.{Bool.{Bool, true, cond, not, ◌&&◌}, List.{List, [], ◌∷◌, ◌++◌}}
use lib.{Dec.{eqb, leb, ltb}, ListN.{length, take, drop}}
use Rattle.octets.specs.Octets.{be8, be16, be32}
use Rattle.records.specs.{Sizes.event_size, Layout.event_bytes, Phone.{tabulate, decode}, declared.Event.Event}
use Rattle.rules.specs.{Words.{◌⇒◌, first}, ImageRules.accepted}

-- "a header (u16 version = 1, u16 record count up to 1,000, u32 offset of the records, always 8) then exactly that many records of 32 bytes"
abbrev pub timeline_version : ℕ
timeline_version = 1

abbrev pub most_timed : ℕ
most_timed = 1000

abbrev pub timed_start : ℕ
timed_start = 8

abbrev pub timed_size : ℕ
timed_size = 32

abbrev pub timed_count : List ℕ → ℕ
timed_count t = be16 t 2

unfoldable pub timeline_framed : List ℕ → Bool
timeline_framed t =
    leb timed_start (length t)
    && eqb (be16 t 0) timeline_version
    && leb (timed_count t) most_timed
    && eqb (be32 t 4) timed_start
    && eqb (length t) (timed_start + timed_count t * timed_size)

-- "u32 simulated second, u32 zero, one event"
pub record Timed : Type 0 where
  pub second : ℕ
  pub blank : ℕ
  pub event : List ℕ

abbrev pub timed_read : List ℕ → ℕ → Timed
timed_read t a = record { second = be32 t (a + 0); blank = be32 t (a + 4); event = take event_size (drop (a + 8) t) }

abbrev pub timed_at : List ℕ → ℕ → Timed
timed_at t i = timed_read t (timed_start + i * timed_size)

abbrev pub timed : List ℕ → List Timed
timed t = tabulate (timed_count t) (timed_at t)

-- "Seconds never fall, the first is not below the image's clock, and kind 1 does not occur.": of one record behind second c, and of all
unfoldable pub timed_fits : ℕ → Timed → Bool
timed_fits c x = leb c x.second && eqb x.blank 0 && not (eqb (be8 x.event 0) 1)

unfoldable pub in_time : ℕ → List Timed → Bool
in_time c [] = true
in_time c (x ∷ l) = timed_fits c x && in_time x.second l

-- the form of a timeline for an image whose clock is c
abbrev pub timeline_fits : ℕ → List ℕ → Bool
timeline_fits c t = timeline_framed t && in_time c (timed t)

-- 01's clock event, "key = new time", by the device
abbrev pub clock_event : ℕ → Event
clock_event s =
    record { kind = 1; actor = 0; id = 0; second = 0; third = 0; fourth = 0; key = s; verifying = 0; owner = 0; expiry = 0 }

-- "with a clock event put in wherever the next second is above the clock": one record where the clock is c
abbrev pub record_events : ℕ → Timed → List (List ℕ)
record_events c x = cond (ltb c x.second) (event_bytes (clock_event x.second) ∷ x.event ∷ []) (x.event ∷ [])

-- "its events in order": behind a record that fits the clock is its second
unfoldable pub unrolled : ℕ → List Timed → List (List ℕ)
unrolled c [] = []
unrolled c (x ∷ l) = record_events c x ++ unrolled x.second l

-- "a timeline that breaks its form is refused whole with new code 19, after 1 and before any event": timeline t for image l
abbrev pub clock_of : List ℕ → ℕ
clock_of l = (decode l).trust.seen.clock

unfoldable pub timeline_code : List ℕ → List ℕ → ℕ
timeline_code l t = first ((not (accepted l) ⇒ 1) ∷ (not (timeline_fits (clock_of l) t) ⇒ 19) ∷ [])

-- the events to run: none where it is refused
unfoldable pub timeline_events : List ℕ → List ℕ → List (List ℕ)
timeline_events l t = cond (eqb (timeline_code l t) 0) (unrolled (clock_of l) (timed t)) []

-- no more of them than two for each record
abbrev pub most_events : ℕ
most_events = 2000
