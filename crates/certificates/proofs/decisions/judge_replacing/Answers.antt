use mathlib.Core.{Bool.{Bool, not}, List.{List, ◌++◌, [], ◌∷◌}, Path.{◌≡◌, refl, sym, ap, ◌∙◌}}
use native.Mathlib.Omega.{arith}
use lib.{Dec.ltb}
use Rattle.std.specs.Prelude.{ℕ, Result, ⊤}
use Rattle.records.specs.{Phone.{decode, certificate_at}, declared.Certificate.Certificate}
use Rattle.rules.specs.{Words.{any, Check, ◌⇒◌, first}, Codes.{in_another, may_replace}}
use Rattle.handling.specs.{Plans.plan, RefusalCodes.by_code}
use Rattle.handling.proofs.{Decided.{refused_first, refused_next, on_next}, PlanLaws.plan_refused}
use Rattle.handling.proofs.CodeRows.{none, here, next, rest, gives, says, says_below, says_not_below}
use Rattle.certificates.specs.MarkingRows.{validity_rows, replacing_rows}
use Rattle.certificates.proofs.{NamedCertificate.{read_fits, read_there}, Refusing.passed_on}
use Rattle.certificates.proofs.decisions.judge_replacing.Goals as goal
use Rattle.certificates.proofs.decisions.judge_replacing.Goals.{After-judge_validity, After-may_replace}

-- whether the key is elsewhere is asked of the domain that was read
elsewhere : (s : List ℕ) (key slot : ℕ) {x : Certificate} {b : Bool} → x ≡ certificate_at (decode s) slot
    → b ≡ any (in_another key x.domain) (decode s).trust.certificates
    → b ≡ any (in_another key (certificate_at (decode s) slot).domain) (decode s).trust.certificates
elsewhere s key slot q h = h ∙ ap (λ x. any (in_another key x.domain) (decode s).trust.certificates) q

-- what the judge of validity has told of the certificate in the slot
told : (c : After-judge_validity) → let p = decode c.args.s.now in
    by_code c.judge_validity.result ≡ plan (first (validity_rows p (certificate_at p c.args.slot))) tt
told c = c.judge_validity.ensures ∙ ap (λ x. plan (first (validity_rows (decode c.args.s.now) x)) tt) c.certificate-c.ensures

-- the rows behind the key's
abbrev behind : After-judge_validity → List Check
behind c =
    let p = decode c.args.s.now in
    (not (may_replace c.args.e (certificate_at p c.args.slot) c.args.r) ⇒ 17) ∷ (ltb c.args.e.expiry p.trust.seen.clock ⇒ 18) ∷ []

free_key : {r : Result ⊤ ℕ} (c : After-judge_validity) → let p = decode c.args.s.now in
    r ≡ plan (first (validity_rows p (certificate_at p c.args.slot) ++ behind c)) tt
    → r ≡ plan (first (replacing_rows p c.args.e (certificate_at p c.args.slot) c.args.r)) tt
free_key c q =
    let a = c.args in
    q ∙ ap (λ m. plan m tt)
    (gives (next (sym (elsewhere _ a.e.key a.slot c.certificate-c.ensures c.key_elsewhere.ensures) ∙ c.if-key_elsewhere.false) (rest refl)))

replaces : (c : After-may_replace) → c.may_replace.result ≡ may_replace c.args.e (certificate_at (decode c.args.s.now) c.args.slot) c.args.r
replaces c = c.may_replace.ensures ∙ ap (λ x. may_replace c.args.e x c.args.r) c.certificate-c.ensures

pub returns-then-key_elsewhere : goal.returns-then-key_elsewhere
returns-then-key_elsewhere c =
    let a = c.args in
    plan_refused _ _ (omega arith)
    (gives (here (sym (elsewhere _ a.e.key a.slot c.certificate-c.ensures c.key_elsewhere.ensures) ∙ c.if-key_elsewhere.true)))

pub judge_validity-requires-clause-c_fits : goal.judge_validity-requires-clause-c_fits
judge_validity-requires-clause-c_fits c = read_fits c.requires.accepted_image c.requires.present_at c.certificate-c.ensures

pub judge_validity-requires-clause-c_present : goal.judge_validity-requires-clause-c_present
judge_validity-requires-clause-c_present c = read_there c.requires.present_at c.certificate-c.ensures

pub returns-in_err-judge_validity : goal.returns-in_err-judge_validity
returns-in_err-judge_validity c =
    let v = (goal.at.returns-in_err-judge_validity c).After-judge_validity in
    passed_on _ _ c.from_residual.ensures.1 (free_key v (refused_first _ _ tt (told v) c.in_err-judge_validity.was))

pub returns-then-not-may_replace : goal.returns-then-not-may_replace
returns-then-not-may_replace c =
    let v = (goal.at.returns-then-not-may_replace c).After-judge_validity in
    let m = replaces (goal.at.returns-then-not-may_replace c).After-may_replace in
    free_key v
    (refused_next _ _ tt (told v) tt c.in_ok-judge_validity.was (λ z. omega (arith, z)) (gives (here (says m (ap not c.if-not-may_replace.true)))))

pub returns-then-e-clock : goal.returns-then-e-clock
returns-then-e-clock c =
    let v = (goal.at.returns-then-e-clock c).After-judge_validity in
    let m = replaces (goal.at.returns-then-e-clock c).After-may_replace in
    free_key v
    (refused_next _ _ tt (told v) tt c.in_ok-judge_validity.was (λ z. omega (arith, z))
    (gives (next (says m (ap not c.if-not-may_replace.false)) (here (says_below c.clock-clock.ensures c.if-e-clock.true)))))

pub returns : goal.returns
returns c =
    let v = (goal.at.returns c).After-judge_validity in
    let m = replaces (goal.at.returns c).After-may_replace in
    free_key v
    (on_next _ _ tt (told v) tt c.in_ok-judge_validity.was
    (gives (next (says m (ap not c.if-not-may_replace.false)) (next (says_not_below c.clock-clock.ensures c.if-e-clock.false) none))))
