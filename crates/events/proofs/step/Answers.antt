use Rattle.opening.proofs.Opens.{accepted_where, refused_where}
use Rattle.events.proofs.Steps.{broken_stepped}
use Rattle.events.proofs.step.Goals as goal

pub returns-then-is_err : goal.returns-then-is_err
returns-then-is_err c = broken_stepped _ _ (refused_where c.open-outcome.ensures c.is_err.ensures.value c.if-is_err.true) _ c.told.ensures

pub step_accepted-requires : goal.step_accepted-requires
step_accepted-requires c = accepted_where c.open-outcome.ensures c.is_err.ensures.value c.if-is_err.false

pub returns : goal.returns
returns c = c.step_accepted.ensures.stepped
