use mathlib.Core.{Bool.{not, ◌&&◌, ◌||◌}, Path.{◌≡◌, sym, ap, ap₂, ◌∙◌}}
use native.Mathlib.Omega.{arith}
use Rattle.records.specs.Phone.{decode}
use Rattle.rules.specs.{Actors.{may_act, acts_for}, Forms.with_kind, Codes.{has_id, certificate_named}}
use Rattle.lookup.proofs.FoundSlot.{at_first, at_within}
use Rattle.handling.proofs.{CodeRows.{none, here, next, gives}, PlanLaws.{plan_refused, plan_on}}
use Rattle.handling.proofs.Named.{certificate_here, certificate_missing, certificate_found}
use Rattle.certificates.proofs.decisions.allowed_on.Goals as goal
use Rattle.certificates.proofs.decisions.allowed_on.Goals.{After-acts_for}

-- whether nobody is allowed, or not this actor, of the certificate that is named
barred : (c : After-acts_for) → let a = c.args in
    let n = certificate_named (decode a.s.now) a.e.id in
    (not (c.may_act.result && c.acts_for.result) || a.nobody) ≡ (not (may_act a.kind n.domain a.e.actor && acts_for (with_kind a.kind a.e) n) || a.nobody)
barred c =
    let a = c.args in
    let q = certificate_here _ _ (at_first (has_id _) _ c.certificate_slot.ensures c.in-Some.is) c.certificate-c.ensures in
    ap₂ (λ b d. not (b && d) || a.nobody) (c.may_act.ensures ∙ ap (λ x. may_act a.kind x.domain a.e.actor) q)
    (c.acts_for.ensures ∙ ap (acts_for (with_kind a.kind a.e)) q)

pub certificate-c-requires-clause-i_in_bounds : goal.certificate-c-requires-clause-i_in_bounds
certificate-c-requires-clause-i_in_bounds c = at_within (has_id _) _ c.certificate_slot.ensures c.in-Some.is

pub returns-in_default : goal.returns-in_default
returns-in_default c =
    plan_refused _ _ (omega arith) (gives (here (ap not (certificate_missing _ _ c.certificate_slot.ensures c.in_default.is))))

pub returns-then-may_act-acts_for : goal.returns-then-may_act-acts_for
returns-then-may_act-acts_for c =
    plan_refused _ _ (omega arith)
    (gives (next (ap not (certificate_found _ _ c.certificate_slot.ensures c.in-Some.is))
    (here (sym (barred (goal.at.returns-then-may_act-acts_for c).After-acts_for) ∙ c.if-may_act-acts_for.true))))

pub returns : goal.returns
returns c =
    plan_on _ _ (at_first (has_id _) _ c.certificate_slot.ensures c.in-Some.is)
    (gives (next (ap not (certificate_found _ _ c.certificate_slot.ensures c.in-Some.is))
    (next (sym (barred (goal.at.returns c).After-acts_for) ∙ c.if-may_act-acts_for.false) none)))
