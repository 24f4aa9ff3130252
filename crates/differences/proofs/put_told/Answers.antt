use native.Mathlib.Omega.{arith}
use Rattle.stream.proofs.JoinedTexts.{said, refusal_ends}
use Rattle.differences.proofs.AnswerLines.{told_refusal, put_behind}
use Rattle.differences.proofs.put_told.Goals as goal

pub overflow_add-result : goal.overflow_add-result
overflow_add-result c = omega (arith, refusal_ends _ _ c.put_refusal.ensures.1)

pub returns : goal.returns
returns c =
    let a = c.args in
    let parts = c.answer_of-a.ensures in
    said a.got.now a.at (told_refusal a.opened a.n a.kind a.told parts c.if-told-eq0.false c.if-told-opened.false c.if-told-ne65536.false)
    (put_behind a.got.now a.at _ (omega arith) c.put_refusal.ensures)
