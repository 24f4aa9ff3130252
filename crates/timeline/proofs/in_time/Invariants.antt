use mathlib.Core.Path.{◌≡◌}
use lib.ListN.{drop}
use Rattle.timeline.specs.Timeline.{timed, in_time}
use Rattle.timeline.proofs.in_time.Given as goal

abbrev pub invariant-loop-i : goal.invariant-loop-i
invariant-loop-i l = in_time l.before (drop l.i (timed l.t)) ≡ in_time l.clock (timed l.t)
