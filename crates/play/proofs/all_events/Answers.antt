use native.Mathlib.Omega.{arith}
use borrow.Author.Rules.{rules}
use lib.ListN.{length}
use Rattle.stream.proofs.LinePlaces.{line_within}
use Rattle.play.proofs.all_events.Goals as goal

pub loop-i-preserved : goal.loop-i-preserved
loop-i-preserved c =
    let v = c.loop-i in
    let room = c.requires.event_size_in_bounds.1 in
    (search rules, omega (arith, line_within v.used (length v.out) _ _ _ c.add_line-used.ensures.1 (omega (arith, room))))
