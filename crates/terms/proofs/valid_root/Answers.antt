use Rattle.rules.specs.Chains.{valid_root}
use Rattle.terms.proofs.valid_root.Goals as goal

pub returns : goal.returns
unfolding valid_root
returns c = rw c.in_date.ensures
