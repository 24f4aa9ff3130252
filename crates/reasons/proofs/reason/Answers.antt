use borrow.{Author.Tests.{eq-eqb, ne_eqb}}
use Rattle.explanations.specs.Why.{reason}
use Rattle.reasons.proofs.Rows.{takes, skips, ends, not_is}
use mathlib.Core.Bool.{not}
use mathlib.Core.Path.{ap}
use Rattle.reasons.proofs.reason.Goals as goal

pub returns-then-c-eq-RECOVERY : goal.returns-then-c-eq-RECOVERY
unfolding reason
returns-then-c-eq-RECOVERY c = takes _ _ _ (eq-eqb _ _ c.if-c-eq-RECOVERY.true)

pub returns-then-not-is_present : goal.returns-then-not-is_present
unfolding reason
returns-then-not-is_present c =
    skips _ _ _ (ne_eqb _ _ c.if-c-eq-RECOVERY.false) (takes _ _ _ (not_is c.is_present.ensures (ap not c.if-not-is_present.true)))

pub returns-then-c-eq0 : goal.returns-then-c-eq0
unfolding reason
returns-then-c-eq0 c =
    skips _ _ _ (ne_eqb _ _ c.if-c-eq-RECOVERY.false)
    (skips _ _ _ (not_is c.is_present.ensures (ap not c.if-not-is_present.false)) (takes _ _ _ (eq-eqb _ _ c.if-c-eq0.true)))

pub returns-then-c-eq0-2 : goal.returns-then-c-eq0-2
unfolding reason
returns-then-c-eq0-2 c =
    skips _ _ _ (ne_eqb _ _ c.if-c-eq-RECOVERY.false)
    (skips _ _ _ (not_is c.is_present.ensures (ap not c.if-not-is_present.false))
    (skips _ _ _ (ne_eqb _ _ c.if-c-eq0.false) (takes _ _ _ (eq-eqb _ _ c.if-c-eq0-2.true))))

pub returns-then-not-is_current : goal.returns-then-not-is_current
unfolding reason
returns-then-not-is_current c =
    skips _ _ _ (ne_eqb _ _ c.if-c-eq-RECOVERY.false)
    (skips _ _ _ (not_is c.is_present.ensures (ap not c.if-not-is_present.false))
    (skips _ _ _ (ne_eqb _ _ c.if-c-eq0.false) (skips _ _ _ (ne_eqb _ _ c.if-c-eq0-2.false)
    (takes _ _ _ (not_is c.is_current.ensures (ap not c.if-not-is_current.true))))))

pub returns-then-not-is_served : goal.returns-then-not-is_served
unfolding reason
returns-then-not-is_served c =
    skips _ _ _ (ne_eqb _ _ c.if-c-eq-RECOVERY.false)
    (skips _ _ _ (not_is c.is_present.ensures (ap not c.if-not-is_present.false))
    (skips _ _ _ (ne_eqb _ _ c.if-c-eq0.false) (skips _ _ _ (ne_eqb _ _ c.if-c-eq0-2.false)
    (skips _ _ _ (not_is c.is_current.ensures (ap not c.if-not-is_current.false))
    (takes _ _ _ (not_is c.is_served.ensures (ap not c.if-not-is_served.true)))))))

pub returns : goal.returns
unfolding reason
returns c =
    skips _ _ _ (ne_eqb _ _ c.if-c-eq-RECOVERY.false)
    (skips _ _ _ (not_is c.is_present.ensures (ap not c.if-not-is_present.false))
    (skips _ _ _ (ne_eqb _ _ c.if-c-eq0.false) (skips _ _ _ (ne_eqb _ _ c.if-c-eq0-2.false)
    (skips _ _ _ (not_is c.is_current.ensures (ap not c.if-not-is_current.false))
    (skips _ _ _ (not_is c.is_served.ensures (ap not c.if-not-is_served.false)) ends)))))
