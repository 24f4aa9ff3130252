use mathlib.Core.{Bool.not, Path.{◌≡◌, ap, ap₂, ◌∙◌}}
use native.Mathlib.Omega.{arith}
use Rattle.records.specs.{Phone.{decode, certificate_at}}
use Rattle.rules.specs.{Words.{first}, Chains.in_date}
use Rattle.handling.specs.{Plans.plan, RefusalCodes.by_code}
use Rattle.handling.proofs.{Decided.{refused_first, refused_next, on_next}, CodeRows.{none, here, next, gives, says}}
use Rattle.certificates.specs.MarkingRows.{validity_rows}
use Rattle.certificates.proofs.{NamedCertificate.{read_fits, read_there}, Refusing.passed_on}
use Rattle.certificates.proofs.decisions.judge_marking.Goals as goal
use Rattle.certificates.proofs.decisions.judge_marking.Goals.{After-judge_validity}

-- what the judge of validity has told of the certificate in the slot
told : (c : After-judge_validity) → let p = decode c.args.s.now in
    by_code c.judge_validity.result ≡ plan (first (validity_rows p (certificate_at p c.args.slot))) tt
told c = c.judge_validity.ensures ∙ ap (λ x. plan (first (validity_rows (decode c.args.s.now) x)) tt) c.certificate-c.ensures

dated : (c : After-judge_validity) → let p = decode c.args.s.now in
    c.in_date-dated.result ≡ in_date p.trust.seen.clock (certificate_at p c.args.slot)
dated c = c.in_date-dated.ensures ∙ ap₂ in_date c.clock-clock.ensures c.certificate-c.ensures

pub judge_validity-requires-clause-c_fits : goal.judge_validity-requires-clause-c_fits
judge_validity-requires-clause-c_fits c = read_fits c.requires.accepted_image c.requires.present_at c.certificate-c.ensures

pub judge_validity-requires-clause-c_present : goal.judge_validity-requires-clause-c_present
judge_validity-requires-clause-c_present c = read_there c.requires.present_at c.certificate-c.ensures

pub returns-in_err-judge_validity : goal.returns-in_err-judge_validity
returns-in_err-judge_validity c =
    passed_on _ _ c.from_residual.ensures.1
    (refused_first _ _ tt (told (goal.at.returns-in_err-judge_validity c).After-judge_validity) c.in_err-judge_validity.was)

pub returns-then-not-dated : goal.returns-then-not-dated
returns-then-not-dated c =
    let v = (goal.at.returns-then-not-dated c).After-judge_validity in
    refused_next _ _ tt (told v) tt c.in_ok-judge_validity.was (λ z. omega (arith, z)) (gives (here (says (dated v) (ap not c.if-not-dated.true))))

pub returns : goal.returns
returns c =
    let v = (goal.at.returns c).After-judge_validity in
    on_next _ _ tt (told v) tt c.in_ok-judge_validity.was (gives (next (says (dated v) (ap not c.if-not-dated.false)) none))
