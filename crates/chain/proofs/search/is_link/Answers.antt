use Rattle.rules.specs.Chains.{link}
use Rattle.chain.proofs.search.is_link.Goals as goal

pub returns : goal.returns
unfolding link
returns c = rw (c.is_present.ensures, c.in_date.ensures, c.clock.ensures)
