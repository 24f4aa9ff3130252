use Rattle.std.proofs.Common.{◌≡◌}
use lib.Dec.{eqb}
use Rattle.records.specs.Phone.{decode}
use Rattle.bits.specs.SlotWord.{any_of}
use Rattle.chain.proofs.WordsAny.{Going}
use Rattle.chain.proofs.search.holds_key.Given as goal

abbrev pub invariant-loop-i : goal.invariant-loop-i
invariant-loop-i l = Going (decode l.s).trust l.i-iterator.0
    × (any_of l.i-iterator.0 (λ c. eqb c.key l.key) (decode l.s).trust.certificates
    ≡ any_of l.among (λ c. eqb c.key l.key) (decode l.s).trust.certificates)
