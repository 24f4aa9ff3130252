use mathlib.Core.Path.{refl}
use native.Mathlib.Omega.{arith}
use Rattle.records.specs.Phone.{decode}
use Rattle.handling.proofs.{CodeRows.{none, here, next, says, says_below, says_not_below}, PlanLaws.{plan_refused, plan_on}}
use Rattle.device.proofs.DeviceCodes.{clock_told}
use Rattle.device.proofs.decisions.clock.Goals as goal

pub returns-then-not-clock_form : goal.returns-then-not-clock_form
returns-then-not-clock_form c =
    plan_refused _ _ (omega arith) (search (clock_told, here, says, c.clock_form.ensures (decode c.args.s.now)))

pub returns-then-not-may_act : goal.returns-then-not-may_act
returns-then-not-may_act c =
    plan_refused _ _ (omega arith) (search (clock_told, here, next, says, c.clock_form.ensures (decode c.args.s.now)))

pub returns-then-e-clock : goal.returns-then-e-clock
returns-then-e-clock c =
    plan_refused _ _ (omega arith) (search (clock_told, here, next, says, says_below, c.clock_form.ensures (decode c.args.s.now)))

pub returns : goal.returns
returns c =
    plan_on _ _ refl (search (clock_told, next, none, says, says_not_below, c.clock_form.ensures (decode c.args.s.now)))
