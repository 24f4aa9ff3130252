use Rattle.rules.specs.ImageRules.{valid_in}
use Rattle.terms.proofs.valid_in.Goals as goal

pub returns : goal.returns
unfolding valid_in
returns c = rw c.valid_root.ensures
