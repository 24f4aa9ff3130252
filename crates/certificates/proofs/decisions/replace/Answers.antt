use mathlib.Core.{Bool.not, Path.{refl, ap, ◌∙◌}}
use native.Mathlib.Omega.{arith}
use Rattle.records.specs.Phone.{decode}
use Rattle.rules.specs.{Words.first_place, Codes.{has_id}}
use Rattle.handling.specs.Plans.{plan}
use Rattle.handling.proofs.{Decided.{unformed, formed}, CodeRows.{here, next, rest, gives}, PlanLaws.plan_refused}
use Rattle.handling.proofs.Named.{certificate_here, certificate_missing, certificate_found}
use Rattle.lookup.proofs.FoundSlot.{at_first, at_within}
use Rattle.certificates.specs.MarkingRows.{replace_plan}
use Rattle.certificates.proofs.CertificateCodes.{replace_told}
use Rattle.certificates.proofs.decisions.replace.Goals as goal

pub returns-then-not-replace_form : goal.returns-then-not-replace_form
returns-then-not-replace_form c = unformed _ _ _ _ (replace_told _ _ (omega arith)) (c.replace_form.ensures _) (ap not c.if-not-replace_form.true)

pub certificate-requires-clause-i_in_bounds : goal.certificate-requires-clause-i_in_bounds
certificate-requires-clause-i_in_bounds c = at_within (has_id _) _ c.certificate_slot.ensures c.in-Some.is

pub returns-in_default : goal.returns-in_default
returns-in_default c =
    let missing = certificate_missing _ _ c.certificate_slot.ensures c.in_default.is in
    formed _ _ _ _ (replace_told _ _ (omega arith)) (c.replace_form.ensures _) (ap not c.if-not-replace_form.false)
    (plan_refused _ _ (omega arith) (gives (here (ap not missing))))

pub returns : goal.returns
returns c =
    let a = c.args in
    let found = certificate_found _ _ c.certificate_slot.ensures c.in-Some.is in
    formed _ _ _ _ (replace_told _ _ (omega arith)) (c.replace_form.ensures _) (ap not c.if-not-replace_form.false)
    (c.replace_by.ensures ∙ ap (replace_plan (decode a.s.now) a.e) (let at = at_first (has_id _) _ c.certificate_slot.ensures c.in-Some.is in
    certificate_here _ _ at c.certificate.ensures)
    ∙ ap (λ m. plan m (first_place (has_id a.e.id) (decode a.s.now).trust.certificates)) (gives (next (ap not found) (rest refl))))
