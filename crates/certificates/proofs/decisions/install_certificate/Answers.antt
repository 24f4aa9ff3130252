use mathlib.Core.{Bool.{cond, not}, Path.{◌≡◌, sym, ap, ◌∙◌}}
use native.Mathlib.Omega.{arith}
use Rattle.std.specs.Prelude.{ℕ}
use Rattle.std.specs.Prelude.{Err}
use Rattle.records.specs.Phone.{decode}
use Rattle.rules.specs.{Forms.{with_kind, new_certificate}, Codes.{certificate_known, code_of}}
use Rattle.handling.proofs.{CodeRows.{Gives, here, next, rest, says}, PlanLaws.{plan_refused, plan_on}}
use Rattle.terms.proofs.FormTests.{domain_below}
use Rattle.certificates.proofs.{CertificateCodes.{install_rows, install_told}, CertificateRooms.{certificate_code, certificate_told, certificate_filled}}
use Rattle.certificates.proofs.decisions.install_certificate.Goals as goal
use Rattle.certificates.proofs.decisions.install_certificate.Goals.{After-certificate_fits, After-certificate_room}

-- what the rows give, of the certificate that was made
code_of_rows : {r : ℕ} (c : After-certificate_fits) → let p = decode c.args.s.now in
    Gives r (install_rows p c.args.e c.new_certificate-c.result) → r ≡ code_of p (with_kind 5 c.args.e)
code_of_rows c = install_told _ _ (omega arith) _ (c.new_certificate-c.ensures ∙ ap (λ m. new_certificate m c.args.e) c.mode.ensures)

pub returns-then-not-certificate_fits : goal.returns-then-not-certificate_fits
returns-then-not-certificate_fits c =
    plan_refused _ _ (omega arith)
    (code_of_rows (goal.at.returns-then-not-certificate_fits c).After-certificate_fits
    (here (says c.certificate_fits.ensures (ap not c.if-not-certificate_fits.true))))

pub may_act-requires : goal.may_act-requires
may_act-requires c =
    let d = domain_below c.new_certificate-c.result (says c.certificate_fits.ensures (ap not c.if-not-certificate_fits.false)) in
    omega arith

pub returns-then-not-may_act : goal.returns-then-not-may_act
returns-then-not-may_act c =
    plan_refused _ _ (omega arith)
    (code_of_rows (goal.at.returns-then-not-may_act c).After-certificate_fits
    (next (says c.certificate_fits.ensures (ap not c.if-not-certificate_fits.false)) (here (says c.may_act.ensures (ap not c.if-not-may_act.true)))))

pub returns-then-not-known_place : goal.returns-then-not-known_place
returns-then-not-known_place c =
    plan_refused _ _ (omega arith)
    (code_of_rows (goal.at.returns-then-not-known_place c).After-certificate_fits
    (next (says c.certificate_fits.ensures (ap not c.if-not-certificate_fits.false))
    (next (says c.may_act.ensures (ap not c.if-not-may_act.false)) (here (says c.known_place.ensures (ap not c.if-not-known_place.true))))))

pub returns-then-not-is_present : goal.returns-then-not-is_present
returns-then-not-is_present c =
    plan_refused _ _ (omega arith)
    (code_of_rows (goal.at.returns-then-not-is_present c).After-certificate_fits
    (next (says c.certificate_fits.ensures (ap not c.if-not-certificate_fits.false))
    (next (says c.may_act.ensures (ap not c.if-not-may_act.false)) (next (says c.known_place.ensures (ap not c.if-not-known_place.false))
    (here (says c.is_present.ensures (ap not c.if-not-is_present.true)))))))

-- what the room tells is the code
code_of_room : (c : After-certificate_room) →
    certificate_code c.of_other_card-other.result c.certificate_room.result ≡ code_of (decode c.args.s.now) (with_kind 5 c.args.e)
unfolding certificate_known
code_of_room c =
    install_told _ _ (omega arith) _ (c.new_certificate-c.ensures ∙ ap (λ m. new_certificate m c.args.e) c.mode.ensures)
    (next (says c.certificate_fits.ensures (ap not c.if-not-certificate_fits.false))
    (next (says c.may_act.ensures (ap not c.if-not-may_act.false)) (next (says c.known_place.ensures (ap not c.if-not-known_place.false))
    (next (says c.is_present.ensures (ap not c.if-not-is_present.false))
    (rest (ap (λ o. certificate_code o c.certificate_room.result) c.of_other_card-other.ensures
    ∙ certificate_told _ _ _ _ _ c.certificate_room.ensures))))))

pub returns-in-Err-Taken : goal.returns-in-Err-Taken
returns-in-Err-Taken c =
    let told = code_of_room (goal.at.returns-in-Err-Taken c).After-certificate_room in
    let room = c.in-Err-Taken.is ∙ ap Err c.in-Err-Taken.field-0-is in
    plan_refused _ _ (omega arith) (ap (certificate_code c.of_other_card-other.result) (sym room) ∙ told)

pub returns-in-Err-Elsewhere : goal.returns-in-Err-Elsewhere
returns-in-Err-Elsewhere c =
    let told = code_of_room (goal.at.returns-in-Err-Elsewhere c).After-certificate_room in
    let room = c.in-Err-Elsewhere.is ∙ ap Err c.in-Err-Elsewhere.field-0-is in
    plan_refused _ _ (omega arith) (ap (certificate_code c.of_other_card-other.result) (sym room) ∙ told)

pub returns-then-other : goal.returns-then-other
returns-then-other c =
    let told = code_of_room (goal.at.returns-then-other c).After-certificate_room in
    let room = c.in-Err-Full.is ∙ ap Err c.in-Err-Full.field-0-is in
    plan_refused _ _ (omega arith)
    (ap (λ o. cond o 11 14) (sym c.if-other.true) ∙ ap (certificate_code c.of_other_card-other.result) (sym room) ∙ told)

pub returns-else-other : goal.returns-else-other
returns-else-other c =
    let told = code_of_room (goal.at.returns-else-other c).After-certificate_room in
    let room = c.in-Err-Full.is ∙ ap Err c.in-Err-Full.field-0-is in
    plan_refused _ _ (omega arith)
    (ap (λ o. cond o 11 14) (sym c.if-other.false) ∙ ap (certificate_code c.of_other_card-other.result) (sym room) ∙ told)

pub returns-then-other-2 : goal.returns-then-other-2
returns-then-other-2 c =
    let told = code_of_room (goal.at.returns-then-other-2 c).After-certificate_room in
    plan_refused _ _ (omega arith)
    (ap (λ o. cond o 11 0) (sym c.if-other-2.true) ∙ ap (certificate_code c.of_other_card-other.result) (sym c.in-Ok.is) ∙ told)

pub returns-else-other-2 : goal.returns-else-other-2
returns-else-other-2 c =
    let told = code_of_room (goal.at.returns-else-other-2 c).After-certificate_room in
    plan_on _ _ (certificate_filled _ _ _ _ c.certificate_room.ensures c.in-Ok.is)
    (ap (λ o. cond o 11 0) (sym c.if-other-2.false) ∙ ap (certificate_code c.of_other_card-other.result) (sym c.in-Ok.is) ∙ told)
