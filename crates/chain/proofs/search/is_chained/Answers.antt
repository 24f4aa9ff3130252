use Rattle.chain.proofs.Rounds.{within_lt, chained_other, chained_by}
use Rattle.chain.proofs.search.is_chained.Goals as goal

pub returns-then-x-domain : goal.returns-then-x-domain
returns-then-x-domain c = search chained_other

pub holds_key-requires-clause-among_bound : goal.holds_key-requires-clause-among_bound
holds_key-requires-clause-among_bound c = within_lt _ _ _ _ c.requires.good_value

pub returns : goal.returns
returns c = search chained_by
