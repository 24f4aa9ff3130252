use Rattle.reasons.proofs.Sweeps.{serves_yes, serves_not}
use Rattle.reasons.proofs.slots.is_serving.Goals as goal

pub returns-then-c-domain : goal.returns-then-c-domain
returns-then-c-domain c = serves_yes _ _ _ _ c.certificate-c.ensures c.if-c-domain.true c.is_good.ensures

pub returns : goal.returns
returns c = serves_not _ _ _ _ c.certificate-c.ensures c.if-c-domain.false
