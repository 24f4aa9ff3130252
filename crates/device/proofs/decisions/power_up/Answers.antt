use mathlib.Core.Path.{refl}
use native.Mathlib.Omega.{arith}
use Rattle.records.specs.Phone.{decode}
use Rattle.handling.proofs.{CodeRows.{none, here, next, says}, PlanLaws.{plan_refused, plan_on}}
use Rattle.device.proofs.DeviceCodes.{power_up_told}
use Rattle.device.proofs.decisions.power_up.Goals as goal

pub returns-then-not-card_form : goal.returns-then-not-card_form
returns-then-not-card_form c =
    plan_refused _ _ (omega arith) (search (power_up_told, here, says, c.card_form.ensures (decode c.args.s.now)))

pub returns-then-not-may_act : goal.returns-then-not-may_act
returns-then-not-may_act c =
    plan_refused _ _ (omega arith) (search (power_up_told, here, next, says, c.card_form.ensures (decode c.args.s.now)))

pub returns-then-not-known_place : goal.returns-then-not-known_place
returns-then-not-known_place c =
    plan_refused _ _ (omega arith) (search (power_up_told, here, next, says, c.card_form.ensures (decode c.args.s.now)))

pub returns : goal.returns
returns c =
    plan_on _ _ refl (search (power_up_told, next, none, says, c.card_form.ensures (decode c.args.s.now)))
