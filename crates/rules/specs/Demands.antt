-- What the three demands speak of: grants, withdrawing events and giving ones. Definitions only.
use Rattle.std.specs.Prelude.{ℕ}
use mathlib.Core.{Bool.{Bool, not, ◌&&◌, ◌||◌}, List.List}
use Rattle.std.specs.Prelude.{eqb}
use Rattle.records.specs.{Layout.event_bytes, Phone.Phone, declared.Event.Event}
use Rattle.rules.specs.{Codes.{certificate_named, code}, Effects.on_a_card}

-- kind 15 by actor 0: "id, second = action"
abbrev pub request_event : ℕ → ℕ → Event
request_event n a =
    record { kind = 15; actor = 0; id = n; second = a; third = 0; fourth = 0; key = 0; verifying = 0; owner = 0; expiry = 0 }

-- kind 12 by actor 0: "id"
abbrev pub verify_event : ℕ → Event
verify_event n =
    record { kind = 12; actor = 0; id = n; second = 0; third = 0; fourth = 0; key = 0; verifying = 0; owner = 0; expiry = 0 }

-- the request of executable n for action a is granted by the image l
unfoldable pub grants : List ℕ → ℕ → ℕ → Bool
grants l n a = eqb (code l (event_bytes (request_event n a))) 0

-- "Withdrawing: 1, 3, 6, 8, 11, 14 and 9 with mode 0."
unfoldable pub withdrawing : Phone → Event → Bool
withdrawing p e =
    eqb e.kind 1
    || eqb e.kind 3
    || eqb e.kind 6
    || eqb e.kind 8
    || eqb e.kind 11
    || eqb e.kind 14
    || (eqb e.kind 9 && eqb e.third 0)

-- "Giving: 5, 10, 12, 13, 9 with mode 1, and 7 except on an operator root on a card."
unfoldable pub giving : Phone → Event → Bool
giving p e =
    eqb e.kind 5
    || eqb e.kind 10
    || eqb e.kind 12
    || eqb e.kind 13
    || (eqb e.kind 9 && eqb e.third 1)
    || (eqb e.kind 7 && not (on_a_card (certificate_named p e.id)))
