use Rattle.reasons.proofs.Whole.{told_trusted, told_despite}
use Rattle.reasons.proofs.tell_chained.Goals as goal

pub returns-then-x-ne0 : goal.returns-then-x-ne0
returns-then-x-ne0 c = told_trusted _ _ _ _ _ _ _ c.tell_chain.ensures c.if-x-ne0.true

pub returns : goal.returns
returns c =
    told_despite _ _ _ _ _ _ _ c.tell_chain.ensures c.if-x-ne0.false c.tell.ensures
