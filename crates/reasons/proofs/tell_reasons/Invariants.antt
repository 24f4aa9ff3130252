use Rattle.records.specs.Phone.{decode}
use Rattle.reasons.proofs.HolderLines.{Untold, rest_of}
use Rattle.reasons.proofs.tell_reasons.Given as goal

abbrev pub invariant-loop-i : goal.invariant-loop-i
invariant-loop-i l =
    Untold (decode l.s).trust l.key l.initial.lines l.lines l.i (rest_of (decode l.s).trust l.key l.slots l.above l.i)
