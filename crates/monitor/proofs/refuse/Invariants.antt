use Rattle.monitor.proofs.RunLaws.{Untold}
use Rattle.monitor.proofs.refuse.Given as goal

abbrev pub invariant-loop-i : goal.invariant-loop-i
invariant-loop-i l = Untold l.a l.initial.answers l.n l.answers l.i
