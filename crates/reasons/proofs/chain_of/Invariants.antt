use Rattle.records.specs.Phone.{decode}
use Rattle.reasons.proofs.FirstDomain.{Passed}
use Rattle.reasons.proofs.chain_of.Given as goal

abbrev pub invariant-loop-domain : goal.invariant-loop-domain
invariant-loop-domain l = Passed (decode l.s).trust l.key l.domain
