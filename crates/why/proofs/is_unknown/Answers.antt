use Prim.Native.Nat.{ℕ}
use mathlib.Core.Path.{sym, ap}
use lib.Dec.{eqb}
use Rattle.why.proofs.PrintedAnswer.{says}
use Rattle.why.proofs.is_unknown.Goals as goal

pub returns-in-Ok : goal.returns-in-Ok
returns-in-Ok c = ap (λ (n : ℕ). eqb n 3) (sym (says _ _ c.explain.ensures.answer c.in-Ok.is).0)

pub returns-in-Err : goal.returns-in-Err
returns-in-Err c = ap (λ (n : ℕ). eqb n 3) (says _ _ c.explain.ensures.answer c.in-Err.is).0
