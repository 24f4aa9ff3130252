use Prim.Native.Nat.{◌*◌}
use lib.ListN.{length-set}
use native.{Mathlib.Numerals.towards_suc, Mathlib.Omega.arith}
use Rattle.octets.proofs.ByteLaws.{sets_put}
use Rattle.reasons.proofs.tell.Goals as goal

pub bounds-lines-at-2 : goal.bounds-lines-at-2
bounds-lines-at-2 c = simp length-set (omega arith)

pub bounds-lines-at-3 : goal.bounds-lines-at-3
bounds-lines-at-3 c = simp length-set (omega arith)

pub returns : goal.returns
returns c = simp towards_suc (sets_put c.args.lines.now (c.args.i * 3) _ (omega arith))
