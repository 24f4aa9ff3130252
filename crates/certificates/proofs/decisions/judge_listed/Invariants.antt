use Prim.Native.Nat.{ℕ}
use mathlib.Core.{Bool.{Bool, not, ◌||◌}, List.List, Path.{◌≡◌}}
use lib.ListN.{drop}
use Rattle.records.specs.Phone.{decode}
use Rattle.rules.specs.{Words.any, ImageRules.third_party_root, Forms.listed, Codes.{certificate_named, certificate_known}}
use Rattle.certificates.proofs.decisions.judge_listed.Given as goal

abbrev pub unknown : List ℕ → ℕ → Bool
unknown s n = not (certificate_known (decode s) n)

abbrev pub other : List ℕ → ℕ → Bool
other s n = not (third_party_root (certificate_named (decode s) n))

abbrev pub invariant-loop-i : goal.invariant-loop-i
invariant-loop-i l = (any (unknown l.s) (drop l.i (listed l.e)) ≡ any (unknown l.s) (listed l.e))
    × ((l.other || any (other l.s) (drop l.i (listed l.e))) ≡ any (other l.s) (listed l.e))
