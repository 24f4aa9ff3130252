use mathlib.Core.Path.{sym}
use lib.Seq.{length-take-le}
use borrow.Author.Rules.{rules}
use Rattle.why.proofs.explain.Goals as goal

pub slice_bounds-lesson-end : goal.slice_bounds-lesson-end
slice_bounds-lesson-end c = sym (length-take-le _ _ (search rules))
