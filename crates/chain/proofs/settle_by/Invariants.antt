use Rattle.chain.proofs.SettledInTurn.{Settling}
use Rattle.chain.proofs.settle_by.Given as goal

abbrev pub invariant-loop-i : goal.invariant-loop-i
invariant-loop-i l = Settling l.domain l.initial.s l.s l.i-end l.i
