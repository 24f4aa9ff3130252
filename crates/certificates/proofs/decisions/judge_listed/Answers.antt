use mathlib.Core.{Bool.not, Path.{sym, ap, ◌∙◌}}
use native.Mathlib.Omega.{arith}
use Rattle.records.specs.Phone.{decode}
use Rattle.rules.specs.{ImageRules.third_party_root, Forms.listed, Codes.{has_id}}
use Rattle.laws.proofs.{Loops.{any_stops, any_goes_on, any_fails}, SlotSweeps.{gathers, gathered}}
use Rattle.lookup.proofs.FoundSlot.{at_first, at_within}
use Rattle.handling.proofs.{CodeRows.{none, here, next, gives}, PlanLaws.{plan_refused, plan_on}}
use Rattle.handling.proofs.Named.{certificate_here, certificate_missing, certificate_found}
use Rattle.terms.proofs.Listed.{listed_length, listed_at}
use Rattle.certificates.proofs.decisions.judge_listed.Invariants.{other, unknown}
use Rattle.certificates.proofs.decisions.judge_listed.Goals as goal

pub returns-in_default : goal.returns-in_default
returns-in_default c =
    let a = c.args in
    let v = c.loop-i in
    let k = listed_length a.e c.requires.fourth_bound in
    let missing = certificate_missing (decode a.s.now) _ c.certificate_slot.ensures c.in_default.is in
    plan_refused _ _ (omega arith)
    (gives (here (sym
    (any_stops 0 (listed a.e) v.i (unknown a.s.now) _ v.invariant.0 (omega arith) (listed_at a.e (omega arith) c.listed_id.ensures) (ap not missing)))))

pub certificate-requires-clause-i_in_bounds : goal.certificate-requires-clause-i_in_bounds
certificate-requires-clause-i_in_bounds c = at_within (has_id _) _ c.certificate_slot.ensures c.in-Some.is

pub loop-i-preserved : goal.loop-i-preserved
loop-i-preserved c =
    let a = c.args in
    let v = c.loop-i in
    let k = listed_length a.e c.requires.fourth_bound in
    let found = certificate_found (decode a.s.now) _ c.certificate_slot.ensures c.in-Some.is in
    let here = certificate_here (decode a.s.now) _ (at_first (has_id _) _ c.certificate_slot.ensures c.in-Some.is) c.certificate.ensures in
    let at = listed_at a.e {i = v.i} (omega arith) c.listed_id.ensures in (
      any_goes_on 0 (listed a.e) v.i (unknown a.s.now) _ v.invariant.0 (omega arith) at (ap not found),
      gathers (other a.s.now) 0 (listed a.e) v.i v.other v.invariant.1 (omega arith)
          (ap not (c.is_third_party_root.ensures ∙ ap (λ x. third_party_root x) here) ∙ ap (other a.s.now) at),
    )

pub returns : goal.returns
returns c =
    let a = c.args in
    let v = c.loop-i in
    let k = listed_length a.e c.requires.fourth_bound in
    plan_on _ _ (gathered (other a.s.now) 0 (listed a.e) v.i v.other v.invariant.1 (omega arith))
    (gives (next (sym (any_fails 0 (listed a.e) v.i (unknown a.s.now) _ v.invariant.0 (omega arith))) none))
