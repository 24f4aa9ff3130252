use native.Mathlib.Omega.{arith}
use mathlib.Core.Path.{sym}
use lib.Seq.{length-take-le}
use Rattle.stream.specs.PrintedLines.{heading}
use Rattle.stream.proofs.JoinedTexts.{start_within}
use borrow.Author.Rules.{rules}
use Rattle.bench.proofs.main.Goals as goal

pub put_heading-told-requires : goal.put_heading-told-requires
unfolding heading
put_heading-told-requires c = search rules

pub slice_bounds-first-end : goal.slice_bounds-first-end
unfolding heading
slice_bounds-first-end c = start_within _ heading (omega arith) c.put_heading-told.ensures

pub slice_bounds-write_all-end : goal.slice_bounds-write_all-end
unfolding heading
slice_bounds-write_all-end c = sym (length-take-le _ _ (start_within _ heading (omega arith) c.put_heading-told.ensures))

pub slice_bounds-lesson-end : goal.slice_bounds-lesson-end
slice_bounds-lesson-end c = sym (length-take-le _ _ (search rules))
