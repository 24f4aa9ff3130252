use mathlib.Core.{Bool.{◌&&◌}, Path.{◌≡◌, refl, ap}}
use native.Mathlib.Omega.{arith}
use lib.Dec.{eqb}
use Rattle.records.specs.Phone.{decode}
use Rattle.rules.specs.Forms.{card_form}
use Rattle.handling.proofs.{CodeRows.{none, here, next, says}, PlanLaws.{plan_refused, plan_on}}
use Rattle.device.proofs.DeviceCodes.{card_out_told, says_zero, says_non_zero}
use Rattle.device.proofs.decisions.card_out.Goals as goal
use Rattle.device.proofs.decisions.card_out.Goals.{After-card_form}

-- the test of its form answers what its form is
fits : (c : After-card_form) → (eqb c.args.e.second 0 && c.card_form.result) ≡ (eqb c.args.e.second 0 && (card_form (decode c.args.s.now) c.args.e))
fits c = ap (λ b. eqb c.args.e.second 0 && b) (c.card_form.ensures (decode c.args.s.now))

pub returns-then-not-e-card_form : goal.returns-then-not-e-card_form
returns-then-not-e-card_form c =
    plan_refused _ _ (omega arith) (search (card_out_told, here, says, fits (goal.at.returns-then-not-e-card_form c).After-card_form))

pub returns-then-not-may_act : goal.returns-then-not-may_act
returns-then-not-may_act c =
    plan_refused _ _ (omega arith) (search (card_out_told, here, next, says, fits (goal.at.returns-then-not-may_act c).After-card_form))

pub returns-then-card_present-eq0 : goal.returns-then-card_present-eq0
returns-then-card_present-eq0 c =
    plan_refused _ _ (omega arith) (search (card_out_told, here, next, says, says_zero, fits (goal.at.returns-then-card_present-eq0 c).After-card_form))

pub returns : goal.returns
returns c =
    plan_on _ _ refl (search (card_out_told, next, none, says, says_non_zero, fits (goal.at.returns c).After-card_form))
