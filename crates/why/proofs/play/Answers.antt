use Rattle.opening.proofs.Opens.{accepted_where}
use Rattle.why.proofs.play.Goals as goal

pub run_events-requires-clause-accepted_image : goal.run_events-requires-clause-accepted_image
run_events-requires-clause-accepted_image c = accepted_where c.open.ensures c.is_err.ensures.value c.if-is_err.false
