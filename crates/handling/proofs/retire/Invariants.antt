use Rattle.handling.specs.Retiring.{retire}
use Rattle.laws.proofs.{Tables.certificates, SlotSweeps.{Sweeping}}
use Rattle.handling.proofs.retire.Given as goal

abbrev pub invariant-loop-i : goal.invariant-loop-i
invariant-loop-i l = Sweeping certificates (retire l.every l.operator) l.initial.s l.s l.i-end l.i
