use Rattle.timeline.specs.Timeline.{timed, unrolled}
use Rattle.timeline.proofs.EventsPlaced.{Unrolling}
use Rattle.timeline.proofs.put_records.Given as goal

abbrev pub invariant-loop-i : goal.invariant-loop-i
invariant-loop-i l = Unrolling (unrolled l.clock (timed l.t)) l.initial.events l.t l.events l.before l.n l.i
