use borrow.Author.Rules.{rules}
use native.Mathlib.Omega.{arith}
use Prim.Native.Nat.{◌-◌}
use mathlib.Core.Path.{refl, ◌∙◌}
use Rattle.reasons.proofs.LinesPlaced.{chain_next, chain_none}
use Rattle.reasons.proofs.tell_chain.Goals as goal

pub loop-i-init : goal.loop-i-init
loop-i-init c = (refl, refl)

pub loop-i-preserved : goal.loop-i-preserved
loop-i-preserved c =
    let v = c.loop-i in
    (search rules, chain_next _ _ (v.i - 1) _ _ _ v.lines (omega arith) c.lowest_server-c.ensures (omega arith) c.tell.ensures ∙ v.invariant.1)

pub shape_of-lines : goal.shape_of-lines
shape_of-lines c = c.loop-i.invariant.0

pub returns : goal.returns
returns c =
    let v = c.loop-i in
    chain_none _ _ v.i v.wanted v.lines (omega arith) ∙ v.invariant.1
