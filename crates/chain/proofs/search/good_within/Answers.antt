use Rattle.chain.proofs.Rounds.{within_lt, round_none, round_one, rounds_all}
use Rattle.chain.proofs.search.good_within.Goals as goal

pub returns-then-n-eq0 : goal.returns-then-n-eq0
returns-then-n-eq0 c = round_none _ _ _ c.if-n-eq0.true

pub good_beyond-requires-clause-fresh_bound : goal.good_beyond-requires-clause-fresh_bound
good_beyond-requires-clause-fresh_bound c = let s = c.sort-c.ensures in within_lt _ _ _ _ s.roots

pub good_beyond-requires-clause-left_bound : goal.good_beyond-requires-clause-left_bound
good_beyond-requires-clause-left_bound c = let s = c.sort-c.ensures in within_lt _ _ _ _ s.links

pub returns : goal.returns
returns c = rounds_all _ _ _ c.if-n-eq0.false _ (c.good_beyond.ensures 0 (round_one _ _ _ c.sort-c.ensures))
