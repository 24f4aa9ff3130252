use mathlib.Core.{Bool.{not, ◌&&◌}, Path.{◌≡◌, refl, ap}}
use native.Mathlib.Omega.{arith}
use lib.Dec.{eqb}
use Rattle.records.specs.Phone.{decode}
use Rattle.rules.specs.Forms.{card_form}
use Rattle.handling.proofs.{CodeRows.{none, here, next, says}, PlanLaws.{plan_refused, plan_on}}
use Rattle.device.proofs.DeviceCodes.{card_in_told, says_not_zero, says_not_non_zero}
use Rattle.device.proofs.decisions.card_in.Goals as goal
use Rattle.device.proofs.decisions.card_in.Goals.{After-card_form}

-- the test of its form answers what its form is
fits : (c : After-card_form) → (not (eqb c.args.e.second 0) && c.card_form.result) ≡ (not (eqb c.args.e.second 0) && (card_form (decode c.args.s.now) c.args.e))
fits c = ap (λ b. not (eqb c.args.e.second 0) && b) (c.card_form.ensures (decode c.args.s.now))

pub returns-then-not-e-card_form : goal.returns-then-not-e-card_form
returns-then-not-e-card_form c =
    plan_refused _ _ (omega arith) (search (card_in_told, here, says, fits (goal.at.returns-then-not-e-card_form c).After-card_form))

pub returns-then-not-may_act : goal.returns-then-not-may_act
returns-then-not-may_act c =
    plan_refused _ _ (omega arith) (search (card_in_told, here, next, says, fits (goal.at.returns-then-not-may_act c).After-card_form))

pub returns-then-not-known_place : goal.returns-then-not-known_place
returns-then-not-known_place c =
    plan_refused _ _ (omega arith) (search (card_in_told, here, next, says, fits (goal.at.returns-then-not-known_place c).After-card_form))

pub returns-then-card_present-ne0 : goal.returns-then-card_present-ne0
returns-then-card_present-ne0 c =
    plan_refused _ _ (omega arith) (search
    (card_in_told, here, next, says, says_not_non_zero, fits (goal.at.returns-then-card_present-ne0 c).After-card_form) depth 7)

pub returns : goal.returns
returns c =
    plan_on _ _ refl (search (card_in_told, next, none, says, says_not_zero, fits (goal.at.returns c).After-card_form) depth 7)
