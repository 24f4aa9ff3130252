use mathlib.Core.{Bool.{false, not}, List.[], Path.{◌≡◌, ap}}
use native.Mathlib.Omega.{arith}
use Rattle.std.specs.Prelude.{ℕ, Result}
use Rattle.records.specs.Phone.{decode}
use Rattle.rules.specs.Words.{first}
use Rattle.handling.specs.Plans.{plan, on_certificate, certificate_rows}
use Rattle.handling.proofs.{Decided.{unformed, formed}, CodeRows.{none, gives}}
use Rattle.certificates.proofs.NamedCertificate.{place, allowed_within, not_allowed, absent, let_be, rest_lets}
use Rattle.certificates.proofs.{CertificateCodes.delete_told, Refusing.passed_on}
use Rattle.certificates.proofs.decisions.delete_certificate.Goals as goal
use Rattle.certificates.proofs.decisions.delete_certificate.Goals.{After-allowed_on}

pub returns-then-not-owned_form : goal.returns-then-not-owned_form
returns-then-not-owned_form c = unformed _ _ _ _ (delete_told _ _ (omega arith)) (c.owned_form.ensures _) (ap not c.if-not-owned_form.true)

well_formed : {r : Result ℕ ℕ} (c : After-allowed_on)
    → r ≡ plan (first (certificate_rows 6 false (decode c.args.s.now) c.args.e)) (place (decode c.args.s.now) c.args.e)
    → r ≡ on_certificate 6 (decode c.args.s.now) c.args.e
well_formed c = formed _ _ _ _ (delete_told _ _ (omega arith)) (c.owned_form.ensures _) (ap not c.if-not-owned_form.false)

pub returns-in_err-slot : goal.returns-in_err-slot
returns-in_err-slot c =
    passed_on _ _ c.from_residual.ensures.1
    (well_formed (goal.at.returns-in_err-slot c).After-allowed_on (not_allowed 6 false _ c.args.e c.allowed_on.ensures [] c.in_err-slot.was))

pub check_present-requires-clause-slot_in_bounds : goal.check_present-requires-clause-slot_in_bounds
check_present-requires-clause-slot_in_bounds c = allowed_within 6 false _ c.args.e c.allowed_on.ensures c.in_ok-slot.was

pub returns-in_err-check_present : goal.returns-in_err-check_present
returns-in_err-check_present c =
    passed_on _ _ c.from_residual-in_err-check_present.ensures.1
    (well_formed (goal.at.returns-in_err-check_present c).After-allowed_on
    (absent 6 false _ c.args.e c.allowed_on.ensures c.in_ok-slot.was c.check_present.ensures [] c.in_err-check_present.was))

pub returns : goal.returns
returns c =
    well_formed (goal.at.returns c).After-allowed_on
    (rest_lets (let_be 6 false _ c.args.e c.allowed_on.ensures c.in_ok-slot.was c.check_present.ensures c.in_ok-check_present.was) [] (gives none))
