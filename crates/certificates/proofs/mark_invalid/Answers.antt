use mathlib.Core.Path.{◌≡◌, refl}
use Rattle.records.specs.Phone.{decode, encode}
use Rattle.rules.specs.{Forms.with_kind, Effects.{effect, mark_invalid}, Step.done}
use Rattle.keeping.proofs.Unrefused.{owned_formed}
use Rattle.handling.proofs.Handles.{settle_framed, said_own, tried_settled, accepted_phone}
use Rattle.certificates.proofs.{NamedCertificate.{About, about, about_named}, MarksAndMessages.invalid_own, Refusing.told_on}
use Rattle.certificates.proofs.mark_invalid.Goals as goal
use Rattle.certificates.proofs.mark_invalid.Goals.{In_ok-slot, After-mark_invalid-2}

pub returns-in_err-slot : goal.returns-in_err-slot
returns-in_err-slot c = told_on _ _ c.from_residual.ensures.1 _ c.mark_invalid.ensures c.in_err-slot.was

decided : (c : In_ok-slot) → About 8 (decode c.args.s.now) c.args.e c.in_ok-slot.slot
decided c = about 8 _ c.args.e tt (owned_formed _ _) c.mark_invalid.ensures c.in_ok-slot.was

written : (c : After-mark_invalid-2) → c.mark_invalid-2.new.s ≡ encode (effect (with_kind 8 c.args.e) (decode c.args.s.now))
unfolding effect mark_invalid
written c = c.mark_invalid-2.ensures

pub certificate-root-requires-clause-i_in_bounds : goal.certificate-root-requires-clause-i_in_bounds
certificate-root-requires-clause-i_in_bounds c = (decided c).named.within

pub mark_invalid-requires-2-clause-named : goal.mark_invalid-requires-2-clause-named
mark_invalid-requires-2-clause-named c = (decided (goal.at.mark_invalid-requires-2-clause-named c).In_ok-slot).named

pub settle_own-requires-clause-framed : goal.settle_own-requires-clause-framed
settle_own-requires-clause-framed c =
    settle_framed _ _ (written (goal.at.settle_own-requires-clause-framed c).After-mark_invalid-2) c.requires.accepted_image

pub settle_own-requires-clause-s_value : goal.settle_own-requires-clause-s_value
settle_own-requires-clause-s_value c =
    let m = decided (goal.at.settle_own-requires-clause-s_value c).In_ok-slot in
    said_own _ _ (written (goal.at.settle_own-requires-clause-s_value c).After-mark_invalid-2) _
    (invalid_own _ (accepted_phone _ c.requires.accepted_image) c.args.e m.named.id_nonzero (about_named m c.certificate-root.ensures))

pub returns : goal.returns
unfolding done
returns c =
    let m = decided (goal.at.returns c).In_ok-slot in
    tried_settled _ _ (written (goal.at.returns c).After-mark_invalid-2) m.code refl c.settle_own.ensures
