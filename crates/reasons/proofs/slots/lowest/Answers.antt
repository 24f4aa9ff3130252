use Rattle.std.proofs.Common.{arith}
use Prim.Native.Nat.{◌-◌}
use mathlib.Core.Path.{subst}
use Rattle.reasons.specs.LowestPassing.{IsLowest}
use Rattle.reasons.proofs.Sweeps.{lowest_end, lowest_back, lowest_done}
use Rattle.reasons.proofs.slots.lowest.Goals as goal

pub loop-i-init : goal.loop-i-init
loop-i-init g c = λ t h. lowest_end _ _ _ c.certificate_slots-i.result (omega arith)

pub loop-i-preserved : goal.loop-i-preserved
loop-i-preserved g c = λ t h.
    let v = c.loop-i in
    let read = c.certificate-c.ensures in
    let asked = h (v.i - 1) _ (omega arith) (subst (λ x. goal.F-post g c.args.passes (v.i - 1) x c.passes.result) read c.passes.ensures) in
    lowest_back _ _ _ (v.i - 1) {j = v.i} (v.invariant t h) (omega arith) (omega arith) read asked c.earlier-best.ensures

pub returns : goal.returns
unfolding IsLowest
returns g c = λ t h. lowest_done _ _ _ c.loop-i.i (c.loop-i.invariant t h) (omega arith)
