use borrow.Author.Rules.{rules}
use Rattle.rules.specs.Chains.{in_date}
use Rattle.terms.proofs.in_date.Goals as goal

pub returns : goal.returns
unfolding in_date
returns c = search rules
