use Prim.Native.Nat.{◌*◌}
use lib.ListN.{length-set}
use native.{Mathlib.Numerals.towards_suc, Mathlib.Omega.arith}
use Rattle.octets.proofs.ByteLaws.{sets_put}
use Rattle.monitor.proofs.tell.Goals as goal

pub bounds-answers-at-2 : goal.bounds-answers-at-2
bounds-answers-at-2 c = simp length-set (omega arith)

pub bounds-answers-at-3 : goal.bounds-answers-at-3
bounds-answers-at-3 c = simp length-set (omega arith)

pub bounds-answers-at-4 : goal.bounds-answers-at-4
bounds-answers-at-4 c = simp length-set (omega arith)

pub bounds-answers-at-5 : goal.bounds-answers-at-5
bounds-answers-at-5 c = simp length-set (omega arith)

pub bounds-answers-at-6 : goal.bounds-answers-at-6
bounds-answers-at-6 c = simp length-set (omega arith)

pub returns : goal.returns
returns c = simp towards_suc (sets_put c.args.answers.now (c.args.i * 6) _ (omega arith))
