use mathlib.Core.{Bool.◌||◌, Path.{◌≡◌}}
use lib.ListN.{drop}
use Rattle.records.specs.Phone.{decode, enabling}
use Rattle.rules.specs.{Words.{any, at}, ImageRules.third_party_root, Effects.{enabled_by}}
use Rattle.chain.specs.Breaks.{disables}
use Rattle.laws.proofs.Tables.{certificates}
use Rattle.laws.proofs.SlotSweeps.{Sweeping}
use Rattle.certificates.proofs.effects.message.Given as goal

abbrev pub invariant-loop-i : goal.invariant-loop-i
invariant-loop-i l = Sweeping certificates (at third_party_root (λ c. enabling (enabled_by l.e c) c)) l.initial.s l.s l.slots l.i
    × ((l.broken || any (disables l.e) (drop l.i (decode l.initial.s).trust.certificates)) ≡ any (disables l.e) (decode l.initial.s).trust.certificates)
