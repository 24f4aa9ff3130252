use mathlib.Core.{Bool.{false, not}, List.◌++◌, Path.{◌≡◌, ap, ◌∙◌}}
use native.Mathlib.Omega.{arith}
use borrow.Author.Tests.{eq-eqb, ne_eqb}
use Rattle.std.specs.Prelude.{ℕ, Result}
use Rattle.records.specs.Phone.{decode}
use Rattle.rules.specs.{Words.{first}, Codes.{certificate_named}}
use Rattle.handling.specs.Plans.{plan, on_certificate, certificate_rows}
use Rattle.handling.proofs.{Decided.{unformed, formed}, CodeRows.{none, here, next, gives}}
use Rattle.certificates.proofs.NamedCertificate.{LetBe, place, allowed_within, not_allowed, absent, let_be, let_named, rest_refuses, rest_lets}
use Rattle.certificates.proofs.{CertificateCodes.{root_row, mark_invalid_told}, Refusing.passed_on}
use Rattle.certificates.proofs.decisions.mark_invalid.Goals as goal
use Rattle.certificates.proofs.decisions.mark_invalid.Goals.{After-allowed_on, In_ok-check_present}

pub returns-then-not-owned_form : goal.returns-then-not-owned_form
returns-then-not-owned_form c = unformed _ _ _ _ (mark_invalid_told _ _ (omega arith)) (c.owned_form.ensures _) (ap not c.if-not-owned_form.true)

well_formed : {r : Result ℕ ℕ} (c : After-allowed_on) → let p = decode c.args.s.now in
    r ≡ plan (first (certificate_rows 8 false p c.args.e ++ root_row (certificate_named p c.args.e.id))) (place p c.args.e)
    → r ≡ on_certificate 8 p c.args.e
well_formed c = formed _ _ _ _ (mark_invalid_told _ _ (omega arith)) (c.owned_form.ensures _) (ap not c.if-not-owned_form.false)

found : (c : In_ok-check_present) → LetBe 8 false (decode c.args.s.now) c.args.e c.in_ok-slot.slot
found c = let_be 8 false _ c.args.e c.allowed_on.ensures c.in_ok-slot.was c.check_present.ensures c.in_ok-check_present.was

pub returns-in_err-slot : goal.returns-in_err-slot
returns-in_err-slot c =
    passed_on _ _ c.from_residual.ensures.1
    (well_formed (goal.at.returns-in_err-slot c).After-allowed_on (not_allowed 8 false _ c.args.e c.allowed_on.ensures _ c.in_err-slot.was))

pub check_present-requires-clause-slot_in_bounds : goal.check_present-requires-clause-slot_in_bounds
check_present-requires-clause-slot_in_bounds c = allowed_within 8 false _ c.args.e c.allowed_on.ensures c.in_ok-slot.was

pub returns-in_err-check_present : goal.returns-in_err-check_present
returns-in_err-check_present c =
    passed_on _ _ c.from_residual-in_err-check_present.ensures.1
    (well_formed (goal.at.returns-in_err-check_present c).After-allowed_on
    (absent 8 false _ c.args.e c.allowed_on.ensures c.in_ok-slot.was c.check_present.ensures _ c.in_err-check_present.was))

pub certificate-requires-clause-i_in_bounds : goal.certificate-requires-clause-i_in_bounds
certificate-requires-clause-i_in_bounds c = allowed_within 8 false _ c.args.e c.allowed_on.ensures c.in_ok-slot.was

pub returns-then-certificate-ne-ROOT : goal.returns-then-certificate-ne-ROOT
returns-then-certificate-ne-ROOT c =
    let f = found (goal.at.returns-then-certificate-ne-ROOT c).In_ok-check_present in
    well_formed (goal.at.returns-then-certificate-ne-ROOT c).After-allowed_on
    (rest_refuses f _ (λ z. omega (arith, z))
    (gives (here (ap not (ne_eqb _ 0 c.if-certificate-ne-ROOT.true))) ∙ ap (λ x. first (root_row x)) (let_named f c.certificate.ensures)))

pub returns : goal.returns
returns c =
    let f = found (goal.at.returns c).In_ok-check_present in
    well_formed (goal.at.returns c).After-allowed_on
    (rest_lets f _
    (gives (next (ap not (eq-eqb _ 0 c.if-certificate-ne-ROOT.false)) none) ∙ ap (λ x. first (root_row x)) (let_named f c.certificate.ensures)))
