use native.Mathlib.Omega.{arith}
use borrow.Author.Rules.{rules}
use Rattle.monitor.proofs.RunLaws.{untold_all, untold_less, untold_none}
use Rattle.monitor.proofs.refuse.Goals as goal

pub loop-i-init : goal.loop-i-init
loop-i-init c = untold_all _ _ _

pub tell-requires : goal.tell-requires
tell-requires c =
    let r = c.loop-i.invariant.room in
    omega arith

pub loop-i-preserved : goal.loop-i-preserved
loop-i-preserved c = untold_less _ _ _ _ _ c.loop-i.invariant (omega arith) (search rules) _ c.tell.ensures

pub shape_of-answers : goal.shape_of-answers
shape_of-answers c = c.loop-i.invariant.room

pub returns : goal.returns
returns c = untold_none _ _ _ _ _ c.loop-i.invariant (omega arith)
