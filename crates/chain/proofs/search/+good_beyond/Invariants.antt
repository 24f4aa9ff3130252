use Rattle.chain.proofs.search.+good_beyond.Given as goal

abbrev pub decreases-good_beyond : goal.decreases-good_beyond
decreases-good_beyond l = l.n
