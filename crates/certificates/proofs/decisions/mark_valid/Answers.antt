use mathlib.Core.{Bool.{false, not}, List.◌++◌, Path.{◌≡◌, ap}}
use native.Mathlib.Omega.{arith}
use Rattle.std.specs.Prelude.{ℕ, Result}
use Rattle.records.specs.Phone.{decode}
use Rattle.rules.specs.{Words.{first}, Codes.{certificate_named}}
use Rattle.handling.specs.Plans.{plan, on_certificate, certificate_rows}
use Rattle.handling.proofs.Decided.{unformed, formed}
use Rattle.certificates.specs.MarkingRows.{marking_rows}
use Rattle.certificates.proofs.NamedCertificate.{LetBe, place, allowed_within, not_allowed, absent, let_be, let_present, judge_refuses, judge_lets}
use Rattle.certificates.proofs.{CertificateCodes.mark_valid_told, Refusing.passed_on}
use Rattle.certificates.proofs.decisions.mark_valid.Goals as goal
use Rattle.certificates.proofs.decisions.mark_valid.Goals.{After-allowed_on, In_ok-check_present}

pub returns-then-not-owned_form : goal.returns-then-not-owned_form
returns-then-not-owned_form c = unformed _ _ _ _ (mark_valid_told _ _ (omega arith)) (c.owned_form.ensures _) (ap not c.if-not-owned_form.true)

well_formed : {r : Result ℕ ℕ} (c : After-allowed_on) → let p = decode c.args.s.now in
    r ≡ plan (first (certificate_rows 7 false p c.args.e ++ marking_rows p (certificate_named p c.args.e.id))) (place p c.args.e)
    → r ≡ on_certificate 7 p c.args.e
well_formed c = formed _ _ _ _ (mark_valid_told _ _ (omega arith)) (c.owned_form.ensures _) (ap not c.if-not-owned_form.false)

found : (c : In_ok-check_present) → LetBe 7 false (decode c.args.s.now) c.args.e c.in_ok-slot.slot
found c = let_be 7 false _ c.args.e c.allowed_on.ensures c.in_ok-slot.was c.check_present.ensures c.in_ok-check_present.was

pub returns-in_err-slot : goal.returns-in_err-slot
returns-in_err-slot c =
    passed_on _ _ c.from_residual.ensures.1
    (well_formed (goal.at.returns-in_err-slot c).After-allowed_on (not_allowed 7 false _ c.args.e c.allowed_on.ensures _ c.in_err-slot.was))

pub check_present-requires-clause-slot_in_bounds : goal.check_present-requires-clause-slot_in_bounds
check_present-requires-clause-slot_in_bounds c = allowed_within 7 false _ c.args.e c.allowed_on.ensures c.in_ok-slot.was

pub returns-in_err-check_present : goal.returns-in_err-check_present
returns-in_err-check_present c =
    passed_on _ _ c.from_residual-in_err-check_present.ensures.1
    (well_formed (goal.at.returns-in_err-check_present c).After-allowed_on
    (absent 7 false _ c.args.e c.allowed_on.ensures c.in_ok-slot.was c.check_present.ensures _ c.in_err-check_present.was))

pub judge_marking-requires-clause-present_at : goal.judge_marking-requires-clause-present_at
judge_marking-requires-clause-present_at c = let_present (found c)

pub returns-in_err-judge_marking : goal.returns-in_err-judge_marking
returns-in_err-judge_marking c =
    passed_on _ _ c.from_residual-in_err-judge_marking.ensures.1
    (well_formed (goal.at.returns-in_err-judge_marking c).After-allowed_on
    (judge_refuses (found (goal.at.returns-in_err-judge_marking c).In_ok-check_present) (marking_rows (decode c.args.s.now)) c.judge_marking.ensures
    c.in_err-judge_marking.was))

pub returns : goal.returns
returns c =
    well_formed (goal.at.returns c).After-allowed_on
    (judge_lets (found (goal.at.returns c).In_ok-check_present) (marking_rows (decode c.args.s.now)) c.judge_marking.ensures c.in_ok-judge_marking.was)
