use Rattle.records.specs.Phone.{decode}
use Rattle.chain.proofs.Sorting.{Sorting}
use Rattle.chain.proofs.search.sort.Given as goal

abbrev pub invariant-loop-i : goal.invariant-loop-i
invariant-loop-i l = Sorting (decode l.s).trust l.domain l.roots l.links l.i
