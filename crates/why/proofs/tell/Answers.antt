use native.Mathlib.Omega.{arith}
use mathlib.Core.Path.{sym}
use lib.Seq.{length-take-le}
use Rattle.stream.proofs.JoinedTexts.{start_within}
use Rattle.why.specs.SentenceText.{answer_text}
use Rattle.why.proofs.PrintedAnswer.{answer_small}
use Rattle.why.proofs.tell.Goals as goal

pub slice_bounds-out-end : goal.slice_bounds-out-end
slice_bounds-out-end c =
    let a = c.args in
    start_within _ (answer_text a.s.now a.id) (omega (arith, answer_small a.s.now a.id)) c.put_answer-told.ensures

pub slice_bounds-write_all-end : goal.slice_bounds-write_all-end
slice_bounds-write_all-end c = sym (length-take-le _ _ (let a = c.args in
    start_within _ (answer_text a.s.now a.id) (omega (arith, answer_small a.s.now a.id)) c.put_answer-told.ensures))
