use borrow.{Author.Tests.{lt-leb, le-leb}}
use Rattle.timeline.specs.Timeline.{timeline_framed}
use Rattle.timeline.proofs.is_framed.Goals as goal

pub returns-then-t-lt-START : goal.returns-then-t-lt-START
unfolding timeline_framed
returns-then-t-lt-START c = simp (lt-leb _ _ c.if-t-lt-START.true)

pub returns : goal.returns
unfolding timeline_framed
returns c = simp (le-leb _ _ c.if-t-lt-START.false) cc
