use borrow.{Author.Tests.{eq-eqb, ne_eqb}}
use native.Mathlib.Omega.{arith}
use Prim.Native.Nat.{◌-◌}
use mathlib.Core.{Bool.false, Path.{sym, ap, ◌∙◌}}
use Rattle.records.specs.Phone.{no_certificate}
use Rattle.rules.specs.{Codes.{in_another}}
use Rattle.laws.proofs.{Loops.{any_back, any_back_done, any_end}, Places.somewhere}
use Rattle.lookup.proofs.SweptRoom.{free_end, free_here, free_next, free_done, certificate_taken, certificate_elsewhere, certificate_new}
use Rattle.lookup.proofs.certificate_room.Goals as goal

pub loop-i-init : goal.loop-i-init
loop-i-init c =
    let n = c.certificate_slots-i.result in (
      sym (any_end no_certificate _ n _ (omega arith)),
      sym (any_end no_certificate _ n _ (omega arith)),
      free_end _ _ no_certificate n (omega arith),
    )

pub returns-then-c-id : goal.returns-then-c-id
returns-then-c-id c =
    let i = c.loop-i.i - 1 in
    let same = ap (λ x. x.id) (sym c.certificate-c.ensures) ∙ c.if-c-id.true in
    certificate_taken _ _ _ _ (somewhere _ no_certificate _ i (omega arith) (eq-eqb _ _ same))

pub returns-then-is_taken : goal.returns-then-is_taken
returns-then-is_taken c = certificate_taken _ _ _ _ (sym c.is_taken.ensures ∙ c.if-is_taken.true)

pub returns-then-in_another : goal.returns-then-in_another
returns-then-in_another c =
    let a = c.args in
    certificate_elsewhere _ _ _ _ (sym c.is_taken.ensures ∙ c.if-is_taken.false)
    (somewhere (in_another a.key a.domain) no_certificate _ (c.loop-i.i - 1) (omega arith)
    (ap (in_another a.key a.domain) (sym c.certificate-c.ensures)
    ∙ sym c.in_another.ensures ∙ c.if-in_another.true))

pub loop-i-preserved-then-c-eq0 : goal.loop-i-preserved-then-c-eq0
loop-i-preserved-then-c-eq0 c =
    let a = c.args in
    let v = c.loop-i in
    let held = c.certificate-c.ensures in (
      any_back no_certificate _ (v.i - 1) _ false false {j = v.i} v.invariant.0 (omega arith) (omega arith)
          (sym (ne_eqb _ _ (λ same. c.if-c-id.false (ap (λ x. x.id) held ∙ same)))),
      any_back no_certificate _ (v.i - 1) (in_another a.key a.domain) false false {j = v.i} v.invariant.1 (omega arith) (omega arith)
          (sym c.if-in_another.false ∙ c.in_another.ensures ∙ ap (in_another a.key a.domain) held),
      free_here _ _ no_certificate (v.i - 1) (omega arith) (eq-eqb _ _ (ap (λ x. x.id) (sym held) ∙ c.if-c-eq0.true)),
    )

pub loop-i-preserved : goal.loop-i-preserved
loop-i-preserved c =
    let a = c.args in
    let v = c.loop-i in
    let held = c.certificate-c.ensures in (
      any_back no_certificate _ (v.i - 1) _ false false {j = v.i} v.invariant.0 (omega arith) (omega arith)
          (sym (ne_eqb _ _ (λ same. c.if-c-id.false (ap (λ x. x.id) held ∙ same)))),
      any_back no_certificate _ (v.i - 1) (in_another a.key a.domain) false false {j = v.i} v.invariant.1 (omega arith) (omega arith)
          (sym c.if-in_another.false ∙ c.in_another.ensures ∙ ap (in_another a.key a.domain) held),
      free_next _ _ no_certificate (v.i - 1) (omega arith) {j = v.i} (omega arith) v.invariant.2
          (ne_eqb _ _ (λ zero. c.if-c-eq0.false (ap (λ x. x.id) held ∙ zero))),
    )

pub returns : goal.returns
returns c =
    let v = c.loop-i in
    certificate_new _ _ _ _
    (sym (any_back_done no_certificate _ v.i _ v.invariant.0 (omega arith)))
    (sym (any_back_done no_certificate _ v.i _ v.invariant.1 (omega arith)))
    (free_done _ _ v.invariant.2 (omega arith))
