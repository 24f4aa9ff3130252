use Rattle.rules.specs.Chains.{present}
use Rattle.terms.proofs.is_present.Goals as goal

pub returns : goal.returns
unfolding present
returns c = rw c.card_present.ensures
