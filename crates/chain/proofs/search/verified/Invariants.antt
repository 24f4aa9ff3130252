use Rattle.std.proofs.Common.{◌≡◌, ◌+◌}
use Rattle.records.specs.Phone.{decode}
use Rattle.bits.specs.SlotWord.{keep}
use Rattle.chain.specs.SlotWords.{verified_by}
use Rattle.chain.proofs.WordsAny.{Going}
use Rattle.chain.proofs.search.verified.Given as goal

abbrev pub invariant-loop-i : goal.invariant-loop-i
invariant-loop-i l = Going (decode l.s).trust l.i-iterator.0
    × (l.found + keep l.i-iterator.0 (verified_by (decode l.s).trust l.fresh) (decode l.s).trust.certificates
    ≡ keep l.left (verified_by (decode l.s).trust l.fresh) (decode l.s).trust.certificates)
