use mathlib.Core.{Bool.false, Path.{◌≡◌}}
use lib.ListN.{drop}
use Rattle.records.specs.Phone.{decode}
use Rattle.rules.specs.{Words.any, Codes.{has_id, in_another}}
use Rattle.lookup.proofs.SweptRoom.{free_from}
use Rattle.lookup.proofs.certificate_room.Given as goal

-- no slot from slot i on has the id or the key in another domain, and the room is the lowest free one of them
abbrev pub invariant-loop-i : goal.invariant-loop-i
invariant-loop-i l =
    (false ≡ any (has_id l.id) (drop l.i (decode l.s).trust.certificates))
    × (false ≡ any (in_another l.key l.domain) (drop l.i (decode l.s).trust.certificates))
    × (l.free ≡ free_from (has_id 0) (decode l.s).trust.certificates l.i)
