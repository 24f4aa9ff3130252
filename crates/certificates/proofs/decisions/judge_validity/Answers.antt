use mathlib.Core.{Bool.{not, ◌&&◌}, Path.{◌≡◌, refl, sym, ap, ap₂, ◌∙◌}}
use native.Mathlib.Omega.{arith}
use borrow.{Author.Tests.{eq-eqb, ne_eqb}}
use lib.{Dec.eqb}
use Rattle.records.specs.Phone.{decode}
use Rattle.rules.specs.{Words.{any}, Parts.near_rival, Codes.rival}
use Rattle.laws.proofs.Rivals.{near_rivals}
use Rattle.handling.proofs.{CodeRows.{none, here, next, gives}, PlanLaws.{plan_refused, plan_on}}
use Rattle.certificates.proofs.decisions.judge_validity.Goals as goal
use Rattle.certificates.proofs.decisions.judge_validity.Goals.{After-has_rival}

pub returns-then-other : goal.returns-then-other
returns-then-other c = plan_refused _ _ (omega arith) (gives (here (sym c.requires.other_value ∙ c.if-other.true)))

pub returns-then-c-ne-ROOT : goal.returns-then-c-ne-ROOT
returns-then-c-ne-ROOT c =
    plan_refused _ _ (omega arith) (gives (next (sym c.requires.other_value ∙ c.if-other.false) (here (ap not (ne_eqb _ 0 c.if-c-ne-ROOT.true)))))

rivals : (c : After-has_rival) → let p = decode c.args.s.now in
    (not (eqb c.args.c.domain 3) && c.has_rival.result) ≡ any (rival p.trust.seen c.args.c) p.trust.certificates
rivals c =
    let a = c.args in
    let l = (decode a.s.now).trust.certificates in
    ap (λ b. not (eqb a.c.domain 3) && b)
    (c.has_rival.ensures ∙ ap₂ (λ t n. any (near_rival t n a.c) l) c.requires.clock_value c.card_present.ensures)
    ∙ sym (near_rivals c.requires.accepted_image a.c c.requires.c_fits c.if-c-ne-ROOT.false c.requires.c_present)

pub returns-then-c-has_rival : goal.returns-then-c-has_rival
returns-then-c-has_rival c =
    plan_refused _ _ (omega arith)
    (gives (next (sym c.requires.other_value ∙ c.if-other.false) (next (ap not (eq-eqb _ 0 c.if-c-ne-ROOT.false))
    (here (sym (rivals (goal.at.returns-then-c-has_rival c).After-has_rival) ∙ c.if-c-has_rival.true)))))

pub returns : goal.returns
returns c =
    plan_on _ _ refl
    (gives (next (sym c.requires.other_value ∙ c.if-other.false) (next (ap not (eq-eqb _ 0 c.if-c-ne-ROOT.false))
    (next (sym (rivals (goal.at.returns c).After-has_rival) ∙ c.if-c-has_rival.false) none))))
