use native.Mathlib.Omega.{arith}
use borrow.Author.Rules.{rules}
use lib.ListN.{length}
use Rattle.stream.proofs.LinePlaces.{line_within}
use Rattle.bench.proofs.all_events.Goals as goal

pub loop-n-preserved : goal.loop-n-preserved
loop-n-preserved c =
    let v = c.loop-n in
    (search rules, omega (arith, line_within v.used (length v.out) _ _ _ c.add_line-used.ensures.1 (omega arith)))
