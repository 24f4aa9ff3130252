use mathlib.Core.Path.{◌≡◌, refl}
use Rattle.records.specs.Phone.{decode, encode}
use Rattle.rules.specs.{Forms.with_kind, Effects.{effect, delete_certificate}, Step.done}
use Rattle.keeping.proofs.Unrefused.{owned_formed}
use Rattle.handling.proofs.Handles.{settle_framed, said_own, tried_settled, accepted_phone}
use Rattle.certificates.proofs.{NamedCertificate.{About, about, about_named}, MarksAndMessages.delete_own, Refusing.told_on}
use Rattle.certificates.proofs.delete_certificate.Goals as goal
use Rattle.certificates.proofs.delete_certificate.Goals.{In_ok-slot, After-delete_certificate-2}

pub returns-in_err-slot : goal.returns-in_err-slot
returns-in_err-slot c = told_on _ _ c.from_residual.ensures.1 _ c.delete_certificate.ensures c.in_err-slot.was

decided : (c : In_ok-slot) → About 6 (decode c.args.s.now) c.args.e c.in_ok-slot.slot
decided c = about 6 _ c.args.e tt (owned_formed _ _) c.delete_certificate.ensures c.in_ok-slot.was

written : (c : After-delete_certificate-2) → c.delete_certificate-2.new.s ≡ encode (effect (with_kind 6 c.args.e) (decode c.args.s.now))
unfolding effect delete_certificate
written c = c.delete_certificate-2.ensures

pub certificate-gone-requires-clause-i_in_bounds : goal.certificate-gone-requires-clause-i_in_bounds
certificate-gone-requires-clause-i_in_bounds c = (decided c).named.within

pub delete_certificate-requires-2-clause-named : goal.delete_certificate-requires-2-clause-named
delete_certificate-requires-2-clause-named c = (decided (goal.at.delete_certificate-requires-2-clause-named c).In_ok-slot).named

pub settle_own-requires-clause-framed : goal.settle_own-requires-clause-framed
settle_own-requires-clause-framed c =
    settle_framed _ _ (written (goal.at.settle_own-requires-clause-framed c).After-delete_certificate-2) c.requires.accepted_image

pub settle_own-requires-clause-s_value : goal.settle_own-requires-clause-s_value
settle_own-requires-clause-s_value c =
    let m = decided (goal.at.settle_own-requires-clause-s_value c).In_ok-slot in
    said_own _ _ (written (goal.at.settle_own-requires-clause-s_value c).After-delete_certificate-2) _
    (delete_own _ (accepted_phone _ c.requires.accepted_image) c.args.e m.named.id_nonzero (about_named m c.certificate-gone.ensures))

pub returns : goal.returns
unfolding done
returns c =
    let m = decided (goal.at.returns c).In_ok-slot in
    tried_settled _ _ (written (goal.at.returns c).After-delete_certificate-2) m.code refl c.settle_own.ensures
