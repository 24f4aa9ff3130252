use mathlib.Core.Path.{◌≡◌, refl, sym, ap, ◌∙◌}
use Rattle.records.specs.Phone.{decode, encode}
use Rattle.rules.specs.{Forms.with_kind, Effects.{effect, mark_valid, on_a_card}, Step.done}
use Rattle.keeping.proofs.Unrefused.{owned_formed}
use Rattle.handling.proofs.Handles.{settle_framed, settle_known, said_still, tried_settled, accepted_phone}
use Rattle.certificates.proofs.{NamedCertificate.{About, about, about_named}, MarksAndMessages.mark_still, Refusing.told_on}
use Rattle.certificates.proofs.mark_valid.Goals as goal
use Rattle.certificates.proofs.mark_valid.Goals.{In_ok-slot, After-mark_valid-2}

pub returns-in_err-slot : goal.returns-in_err-slot
returns-in_err-slot c = told_on _ _ c.from_residual.ensures.1 _ c.mark_valid.ensures c.in_err-slot.was

decided : (c : In_ok-slot) → About 7 (decode c.args.s.now) c.args.e c.in_ok-slot.slot
decided c = about 7 _ c.args.e tt (owned_formed _ _) c.mark_valid.ensures c.in_ok-slot.was

written : (c : After-mark_valid-2) → c.mark_valid-2.new.s ≡ encode (effect (with_kind 7 c.args.e) (decode c.args.s.now))
unfolding effect mark_valid
written c = c.mark_valid-2.ensures

pub certificate-requires-clause-i_in_bounds : goal.certificate-requires-clause-i_in_bounds
certificate-requires-clause-i_in_bounds c = (decided c).named.within

pub mark_valid-requires-2-clause-named : goal.mark_valid-requires-2-clause-named
mark_valid-requires-2-clause-named c = (decided (goal.at.mark_valid-requires-2-clause-named c).In_ok-slot).named

pub settle_if-requires-clause-framed : goal.settle_if-requires-clause-framed
settle_if-requires-clause-framed c =
    settle_framed _ _ (written (goal.at.settle_if-requires-clause-framed c).After-mark_valid-2) c.requires.accepted_image

pub settle_if-requires-clause-domains_known : goal.settle_if-requires-clause-domains_known
unfolding effect mark_valid
settle_if-requires-clause-domains_known c =
    settle_known _ (with_kind 7 c.args.e) (written (goal.at.settle_if-requires-clause-domains_known c).After-mark_valid-2) c.requires.accepted_image refl

pub settle_if-requires-clause-s_value : goal.settle_if-requires-clause-s_value
settle_if-requires-clause-s_value c = λ b.
    let named = about_named (decided (goal.at.settle_if-requires-clause-s_value c).In_ok-slot) c.certificate.ensures in
    said_still _ _ (written (goal.at.settle_if-requires-clause-s_value c).After-mark_valid-2)
    (mark_still _ (accepted_phone _ c.requires.accepted_image) c.args.e (ap on_a_card (sym named) ∙ sym c.on_a_card-takes.ensures ∙ b))

pub returns : goal.returns
unfolding done
returns c =
    let m = decided (goal.at.returns c).In_ok-slot in
    tried_settled _ _ (written (goal.at.returns c).After-mark_valid-2) m.code refl c.settle_if.ensures
