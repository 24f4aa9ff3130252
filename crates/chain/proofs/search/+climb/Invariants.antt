use Rattle.chain.proofs.search.+climb.Given as goal

abbrev pub decreases-climb : goal.decreases-climb
decreases-climb l = l.n
