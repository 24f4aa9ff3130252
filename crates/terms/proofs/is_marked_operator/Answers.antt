use Rattle.terms.proofs.is_marked_operator.Goals as goal

pub returns : goal.returns
returns c = rw c.is_phone_operator_root.ensures
