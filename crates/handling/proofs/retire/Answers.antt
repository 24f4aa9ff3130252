use Prim.Native.Nat.{◌+◌}
use native.Mathlib.Omega.{arith}
use Rattle.handling.specs.Retiring.{retire}
use mathlib.Core.Path.{sym, subst, ◌∙◌}
use Rattle.laws.proofs.{Tables.certificates, SlotSweeps.{Sweeping, sweep_starts, sweep_goes_on, sweep_skips, sweep_ends}}
use Rattle.handling.proofs.Retires.{retire_written, retire_skipped}
use Rattle.handling.proofs.retire.Goals.{then-is_outgoing, else-is_outgoing}
use Rattle.handling.proofs.retire.Goals as goal

pub loop-i-init : goal.loop-i-init
loop-i-init c = sweep_starts certificates _ c.requires c.certificate_slots-i-end.ensures.0

pub loop-i-preserved : goal.loop-i-preserved
loop-i-preserved c =
    let a = c.args in
    elim c.if-is_outgoing.branch [
      | then-is_outgoing w ↦
          sweep_goes_on certificates _ c.loop-i.invariant (omega arith) c.if-is_outgoing.auto.s
          (retire_written a.every a.operator c.certificate.ensures c.is_outgoing.ensures w.if-is_outgoing.true) (w.s-is ∙ w.set_mark.ensures)
      | else-is_outgoing w ↦
          subst (λ s. Sweeping certificates (retire a.every a.operator) a.s.now s c.certificate_slots-i-end.result (c.loop-i.i + 1)) (sym w.s-is)
          (sweep_skips certificates _ c.loop-i.invariant (omega arith)
          (retire_skipped a.every a.operator c.certificate.ensures c.is_outgoing.ensures w.if-is_outgoing.false))
    ]

pub returns : goal.returns
returns c = sweep_ends certificates _ c.loop-i.invariant (omega arith)
