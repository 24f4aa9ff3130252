use Rattle.records.specs.Phone.{decode}
use Rattle.chain.proofs.Levels.{Raising}
use Rattle.chain.proofs.search.up.Given as goal

abbrev pub invariant-loop-i : goal.invariant-loop-i
invariant-loop-i l = Raising (decode l.s).trust l.domain l.level l.i-iterator.0 l.links
