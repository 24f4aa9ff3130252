use mathlib.Core.{Bool.false, Path.{◌≡◌}}
use lib.ListN.{drop}
use Rattle.records.specs.Phone.{decode}
use Rattle.rules.specs.{Words.any, Codes.is_executable}
use Rattle.lookup.proofs.SweptRoom.{free_from}
use Rattle.lookup.proofs.executable_room.Given as goal

-- no slot from slot i on has the id, and the room is the lowest free one of them
abbrev pub invariant-loop-i : goal.invariant-loop-i
invariant-loop-i l =
    (false ≡ any (is_executable l.id) (drop l.i (decode l.s).executables))
    × (l.room ≡ free_from (is_executable 0) (decode l.s).executables l.i)
