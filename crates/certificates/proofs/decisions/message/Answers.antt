use mathlib.Core.{Bool.not, List.{List, [], ◌∷◌}, Path.{◌≡◌, refl, sym, ap, ◌∙◌}}
use native.Mathlib.Omega.{arith}
use Rattle.std.specs.Prelude.{ℕ}
use Rattle.records.specs.{Phone.{Phone, decode}, declared.Event.Event}
use Rattle.rules.specs.{Words.{any, Check, ◌⇒◌, first}, ImageRules.third_party_root, Actors.may_act}
use Rattle.rules.specs.{Forms.{listed, with_kind}, Codes.{certificate_named, code_of}}
use Rattle.handling.proofs.CodeRows.{none, here, next, rest, gives, says}
use Rattle.handling.proofs.PlanLaws.{plan_refused, plan_on, reason_not_0, refused_code, on_code, on_slot, stands, decides}
use Rattle.terms.proofs.FormTests.{message_listed}
use Rattle.certificates.proofs.{CertificateCodes.message_told, Refusing.passed_on}
use Rattle.certificates.proofs.decisions.message.Goals as goal
use Rattle.certificates.proofs.decisions.message.Goals.{In_ok-other}

-- the rows behind those that the list is judged by
abbrev later : Phone → Event → List Check
later p e = (not (may_act 9 0 e.actor) ⇒ 4) ∷ (any (λ n. not (third_party_root (certificate_named p n))) (listed e) ⇒ 12) ∷ []

code_of_later : {r : ℕ} (c : In_ok-other) → r ≡ first (later (decode c.args.s.now) c.args.e) → r ≡ code_of (decode c.args.s.now) (with_kind 9 c.args.e)
code_of_later c q =
    message_told _ _ (omega arith) (next (says (c.message_form.ensures _) (ap not c.if-not-message_form.false))
    (rest (q ∙ decides _ (later (decode c.args.s.now) c.args.e) tt refl (on_code _ _ c.judge_listed.ensures c.in_ok-other.was))))

pub returns-then-not-message_form-clause-code : goal.returns-then-not-message_form-clause-code
returns-then-not-message_form-clause-code c =
    plan_refused _ _ (omega arith) (message_told _ _ (omega arith) (here (says (c.message_form.ensures _) (ap not c.if-not-message_form.true))))

pub judge_listed-requires-clause-fourth_bound : goal.judge_listed-requires-clause-fourth_bound
judge_listed-requires-clause-fourth_bound c =
    message_listed (decode c.args.s.now) c.args.e (says (c.message_form.ensures _) (ap not c.if-not-message_form.false))

pub returns-in_err-other-clause-code : goal.returns-in_err-other-clause-code
returns-in_err-other-clause-code c =
    let n = reason_not_0 c.in_err-other.field-0.0 in
    passed_on _ _ c.from_residual.ensures.1
    (plan_refused _ _ (omega arith)
    (message_told _ _ (omega arith) (next (says (c.message_form.ensures _) (ap not c.if-not-message_form.false))
    (rest (stands _ (later (decode c.args.s.now) c.args.e) (refused_code _ _ c.judge_listed.ensures c.in_err-other.was) n)))))

pub returns-then-not-may_act-clause-code : goal.returns-then-not-may_act-clause-code
returns-then-not-may_act-clause-code c =
    plan_refused _ _ (omega arith)
    (code_of_later (goal.at.returns-then-not-may_act-clause-code c).In_ok-other (gives (here (says c.may_act.ensures (ap not c.if-not-may_act.true)))))

pub returns-then-other-clause-code : goal.returns-then-other-clause-code
returns-then-other-clause-code c =
    plan_refused _ _ (omega arith)
    (code_of_later (goal.at.returns-then-other-clause-code c).In_ok-other (gives (next (says c.may_act.ensures (ap not c.if-not-may_act.false))
    (here (sym (on_slot _ _ c.judge_listed.ensures c.in_ok-other.was) ∙ c.if-other.true)))))

pub returns-clause-code : goal.returns-clause-code
returns-clause-code c =
    plan_on _ _ refl
    (code_of_later (goal.at.returns-clause-code c).In_ok-other (gives (next (says c.may_act.ensures (ap not c.if-not-may_act.false))
    (next (sym (on_slot _ _ c.judge_listed.ensures c.in_ok-other.was) ∙ c.if-other.false) none))))

pub returns-clause-few : goal.returns-clause-few
returns-clause-few c =
    message_listed (decode c.args.s.now) c.args.e (says (c.message_form.ensures _) (ap not c.if-not-message_form.false))
