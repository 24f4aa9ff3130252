use mathlib.Core.{Bool.not, Path.{refl, ap, ◌∙◌}}
use native.Mathlib.Omega.{arith}
use Rattle.rules.specs.Chains.{present}
use Rattle.records.specs.Phone.{decode}
use Rattle.handling.proofs.{CodeRows.{none, here, next, gives, says}, PlanLaws.{plan_refused, plan_on}}
use Rattle.certificates.proofs.decisions.check_present.Goals as goal

pub returns-then-not-is_present : goal.returns-then-not-is_present
returns-then-not-is_present c =
    plan_refused _ _ (omega arith)
    (gives (here (says (c.is_present.ensures ∙ ap (present (decode c.args.s.now).trust.seen) c.certificate.ensures) (ap not c.if-not-is_present.true))))

pub returns : goal.returns
returns c =
    plan_on _ _ refl
    (gives (next (says (c.is_present.ensures ∙ ap (present (decode c.args.s.now).trust.seen) c.certificate.ensures) (ap not c.if-not-is_present.false)) none))
