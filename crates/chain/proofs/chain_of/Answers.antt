use Rattle.chain.proofs.FirstHolder.{chain_held, chain_unheld}
use Rattle.chain.proofs.chain_of.Goals as goal

pub returns-then-links-eq0 : goal.returns-then-links-eq0
returns-then-links-eq0 c =
    chain_unheld _ _ c.requires.keyed _ c.domain_of-domain.ensures _ c.links_of-links.ensures c.if-links-eq0.true

pub returns : goal.returns
returns c =
    chain_held _ _ c.requires.keyed _ c.domain_of-domain.ensures _ c.links_of-links.ensures c.if-links-eq0.false
