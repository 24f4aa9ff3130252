use Rattle.rules.specs.AcceptedImage.{AcceptedImage}
use Rattle.why.specs.EventsRun.{RanAtMost}
use Rattle.why.proofs.run_events.Given as goal

abbrev pub invariant-loop-n : goal.invariant-loop-n
invariant-loop-n l = AcceptedImage l.s × RanAtMost l.initial.s l.n l.s
