-- The room for one more record. Definitions only.
use Rattle.std.specs.Prelude.{ℕ, Result, Ok, Err}
use mathlib.Core.{Bool.{Bool, cond}, List.List}
use Rattle.records.specs.{declared.Certificate.Certificate, declared.Executable.Executable}
use Rattle.rules.specs.{Words.{any, first_place}, Codes.{has_id, in_another, is_executable}}
use Rattle.lookup.specs.declared.NoRoom.{NoRoom}

-- the lowest free slot, or none
unfoldable pub free_slot : {A : Type 0} → (A → Bool) → List A → Result ℕ NoRoom
free_slot free l = cond (any free l) (Ok (first_place free l)) (Err NoRoom.Full)

-- "id taken", or the lowest free slot, or none
unfoldable pub executable_room : ℕ → List Executable → Result ℕ NoRoom
executable_room id l = cond (any (is_executable id) l) (Err NoRoom.Taken) (free_slot (is_executable 0) l)

-- "id taken", or that, or the lowest free slot, or none
unfoldable pub certificate_room : ℕ → ℕ → ℕ → List Certificate → Result ℕ NoRoom
certificate_room id key domain l =
    cond (any (has_id id) l) (Err NoRoom.Taken)
    (cond (any (in_another key domain) l) (Err NoRoom.Elsewhere) (free_slot (has_id 0) l))
