use Rattle.std.proofs.Common.{arith, rules, ◌∙◌}
use Rattle.chain.specs.Settling.{settle_in}
use Rattle.laws.proofs.{Tables.executables, SlotSweeps.{sweep_starts, sweep_ends}}
use Rattle.chain.proofs.SettledInTurn.{settling_skips, settling_writes}
use Rattle.chain.proofs.settle_by.Goals.{then-not-is_chained, else-not-is_chained}
use Rattle.chain.proofs.settle_by.Goals as goal

pub loop-i-init : goal.loop-i-init
loop-i-init c = sweep_starts executables _ c.requires.framed c.executable_slots-i-end.ensures.0

pub loop-i-preserved : goal.loop-i-preserved
loop-i-preserved c =
    let v = c.loop-i.invariant in
    elim c.if-not-is_chained.branch [
      | then-not-is_chained w ↦
          settling_writes _ _ v (omega arith) c.executable.ensures c.is_chained.ensures w.if-not-is_chained.true (search rules) (w.s-is ∙ w.set_domain.ensures)
      | else-not-is_chained w ↦ rw w.s-is (settling_skips _ _ v (omega arith) c.executable.ensures c.is_chained.ensures w.if-not-is_chained.false)
    ]

pub returns : goal.returns
unfolding settle_in
returns c = sweep_ends executables _ c.loop-i.invariant (omega arith)
