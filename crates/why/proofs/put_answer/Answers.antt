use native.Mathlib.Omega.{arith}
use Rattle.why.proofs.PrintedAnswer.{said_first, says, lines_told, text_page}
use Rattle.why.proofs.put_answer.Goals as goal

pub put_page-requires : goal.put_page-requires
put_page-requires c = let few = lines_told _ _ c.explain.ensures.answer c.in-Ok.is in (omega (arith, few), omega (arith, few))

pub returns-in-Ok : goal.returns-in-Ok
returns-in-Ok c =
    let e = c.explain.ensures in
    said_first _ (text_page _ _ e.answer c.in-Ok.is _ (omega arith) e.told) c.put_page.ensures

pub returns-in-Err : goal.returns-in-Err
returns-in-Err c = said_first _ ((says _ _ c.explain.ensures.answer c.in-Err.is).1 c.if-refused-eq1.true) c.put_refusal.ensures

pub returns-in-Err-2 : goal.returns-in-Err-2
returns-in-Err-2 c = said_first _ ((says _ _ c.explain.ensures.answer c.in-Err.is).2 c.if-refused-eq1.false) c.put_unknown.ensures
