use Rattle.records.specs.Phone.{decode}
use Rattle.chain.proofs.Levels.{Sweeping}
use Rattle.chain.proofs.search.level_of.Given as goal

abbrev pub invariant-loop-i : goal.invariant-loop-i
invariant-loop-i l = Sweeping (decode l.s).trust l.domain l.key l.level l.found l.i
