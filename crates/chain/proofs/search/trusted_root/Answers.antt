use Rattle.rules.specs.Chains.{trusted_root}
use Rattle.chain.proofs.search.trusted_root.Goals as goal

pub returns : goal.returns
unfolding trusted_root
returns c = rw (c.is_present.ensures, c.valid_root.ensures, c.clock.ensures)
