use mathlib.Core.{Bool.not, Path.ap}
use native.Mathlib.Omega.{arith}
use Rattle.rules.specs.Codes.{is_executable}
use Rattle.lookup.proofs.FoundSlot.{at_first}
use Rattle.handling.proofs.{CodeRows.{none, here, next, gives, says}, PlanLaws.{plan_refused, plan_on}, Named.{executable_missing, executable_found}}
use Rattle.executables.proofs.decisions.on_executable.Goals as goal

pub returns-in_default : goal.returns-in_default
returns-in_default c =
    let missing = executable_missing _ _ c.executable_slot.ensures c.in_default.is in
    plan_refused _ _ (omega arith) (gives (here (ap not missing)))

pub returns-then-not-may_act : goal.returns-then-not-may_act
returns-then-not-may_act c =
    let found = ap not (executable_found _ _ c.executable_slot.ensures c.in-Some.is) in
    plan_refused _ _ (omega arith) (gives (next found (here (says c.may_act.ensures (ap not c.if-not-may_act.true)))))

pub returns : goal.returns
returns c =
    let at = c.in-Some.is in
    let found = ap not (executable_found _ _ c.executable_slot.ensures at) in
    plan_on _ _ (at_first (is_executable _) _ c.executable_slot.ensures at)
    (gives (next found (next (says c.may_act.ensures (ap not c.if-not-may_act.false)) none)))
