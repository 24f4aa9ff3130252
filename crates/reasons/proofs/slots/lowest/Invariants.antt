use mathlib.Core.{Bool.Bool, Path.{◌≡◌}}
use lib.ListN.{drop}
use Rattle.records.specs.{Phone.{decode}, declared.Certificate.Certificate}
use Rattle.explanations.specs.Why.{lowest}
use Rattle.reasons.specs.LowestPassing.{Tells}
use Rattle.reasons.proofs.slots.lowest.Given as goal

-- of the records from slot i on, the lowest is kept
abbrev pub invariant-loop-i : goal.invariant-loop-i
invariant-loop-i g l =
    (t : Certificate → Bool) → Tells (goal.F-post g l.passes) (decode l.s).trust.certificates t
    → l.best ≡ lowest t l.above (drop l.i (decode l.s).trust.certificates)
