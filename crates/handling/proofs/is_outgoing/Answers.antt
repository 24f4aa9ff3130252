use Rattle.handling.specs.Retiring.{outgoing}
use Rattle.handling.proofs.is_outgoing.Goals as goal

pub returns : goal.returns
unfolding outgoing
returns c = rw c.is_phone_operator_root.ensures
