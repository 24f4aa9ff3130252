use Rattle.chain.proofs.Levels.{links_by, links_unsigned, both_signed}
use Rattle.chain.proofs.links_of.Goals as goal

pub returns-then-key-domain : goal.returns-then-key-domain
returns-then-key-domain c = links_unsigned _ _ _ c.if-key-domain.true

pub returns : goal.returns
returns c = links_by _ _ _ _ (both_signed _ _ c.if-key-domain.false) c.links_within.ensures
