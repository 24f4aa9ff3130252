use mathlib.Core.Path.{◌≡◌}
use lib.{ListN.drop, Dec.eqb}
use Rattle.rules.specs.{Words.any, Forms.{listed}}
use Rattle.certificates.proofs.effects.is_listed.Given as goal

abbrev pub invariant-loop-i : goal.invariant-loop-i
invariant-loop-i l = any (eqb l.id) (drop l.i (listed l.e)) ≡ any (eqb l.id) (listed l.e)
