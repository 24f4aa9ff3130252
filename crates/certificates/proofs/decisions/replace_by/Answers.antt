use lib.Dec.{eqb}
use Rattle.records.specs.Phone.{decode}
use Rattle.certificates.specs.MarkingRows.{replacing_rows}
use Rattle.certificates.proofs.NamedCertificate.{LetBe, allowed_within, not_allowed, absent, let_be, let_present, judge_refuses, judge_lets}
use Rattle.certificates.proofs.{Refusing.passed_on}
use Rattle.certificates.proofs.decisions.replace_by.Goals as goal
use Rattle.certificates.proofs.decisions.replace_by.Goals.{In_ok-check_present}

found : (c : In_ok-check_present) → LetBe 16 (eqb c.args.r.domain 3) (decode c.args.s.now) c.args.e c.in_ok-slot.slot
found c = let_be 16 _ _ c.args.e c.allowed_on.ensures c.in_ok-slot.was c.check_present.ensures c.in_ok-check_present.was

pub returns-in_err-slot : goal.returns-in_err-slot
returns-in_err-slot c =
    passed_on _ _ c.from_residual.ensures.1 (not_allowed 16 _ _ c.args.e c.allowed_on.ensures _ c.in_err-slot.was)

pub check_present-requires-clause-slot_in_bounds : goal.check_present-requires-clause-slot_in_bounds
check_present-requires-clause-slot_in_bounds c = allowed_within 16 _ _ c.args.e c.allowed_on.ensures c.in_ok-slot.was

pub returns-in_err-check_present : goal.returns-in_err-check_present
returns-in_err-check_present c =
    passed_on _ _ c.from_residual-in_err-check_present.ensures.1
    (absent 16 _ _ c.args.e c.allowed_on.ensures c.in_ok-slot.was c.check_present.ensures _ c.in_err-check_present.was)

pub judge_replacing-requires-clause-present_at : goal.judge_replacing-requires-clause-present_at
judge_replacing-requires-clause-present_at c = let_present (found c)

pub returns-in_err-judge_replacing : goal.returns-in_err-judge_replacing
returns-in_err-judge_replacing c =
    passed_on _ _ c.from_residual-in_err-judge_replacing.ensures.1
    (judge_refuses (found (goal.at.returns-in_err-judge_replacing c).In_ok-check_present)
    (λ x. replacing_rows (decode c.args.s.now) c.args.e x c.args.r) c.judge_replacing.ensures c.in_err-judge_replacing.was)

pub returns : goal.returns
returns c =
    judge_lets (found (goal.at.returns c).In_ok-check_present)
    (λ x. replacing_rows (decode c.args.s.now) c.args.e x c.args.r) c.judge_replacing.ensures c.in_ok-judge_replacing.was
