use borrow.{Author.Tests.{lt-leb, le-leb}}
use Rattle.records.specs.Frame.{framed}
use Rattle.records.proofs.image.is_framed.Goals as goal

pub returns-then-s-lt-SIZE : goal.returns-then-s-lt-SIZE
unfolding framed
returns-then-s-lt-SIZE c = simp (lt-leb _ _ c.if-s-lt-SIZE.true)

pub returns : goal.returns
unfolding framed
returns c = simp (le-leb _ _ c.if-s-lt-SIZE.false) c.header_fits.ensures
