use Rattle.opening.proofs.Opens.{accepted_where, refused_where}
use Rattle.reasons.proofs.Whole.{told_broken}
use Rattle.reasons.proofs.explain_whole.Goals as goal

pub returns-then-is_err : goal.returns-then-is_err
returns-then-is_err c = told_broken _ _ _ (refused_where c.open-outcome.ensures c.is_err.ensures.value c.if-is_err.true) c.told.ensures

pub explain_accepted-requires-clause-accepted_image : goal.explain_accepted-requires-clause-accepted_image
explain_accepted-requires-clause-accepted_image c = accepted_where c.open-outcome.ensures c.is_err.ensures.value c.if-is_err.false
