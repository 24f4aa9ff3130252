use mathlib.Core.Path.{◌≡◌, refl}
use Rattle.records.specs.Phone.{decode, encode}
use Rattle.rules.specs.{Forms.with_kind, Effects.{effect, replace}, Step.done}
use Rattle.keeping.proofs.Unrefused.{replace_formed}
use Rattle.handling.proofs.Handles.{settle_framed, said_own, tried_settled, accepted_phone}
use Rattle.certificates.proofs.{NamedCertificate.{About, about, about_named}, MarksAndMessages.replace_own, Refusing.told_on}
use Rattle.certificates.proofs.replace.Goals as goal
use Rattle.certificates.proofs.replace.Goals.{In_ok-slot, After-replace-2}

pub returns-in_err-slot : goal.returns-in_err-slot
returns-in_err-slot c = told_on _ _ c.from_residual.ensures.1 _ c.replace.ensures c.in_err-slot.was

decided : (c : In_ok-slot) → About 16 (decode c.args.s.now) c.args.e c.in_ok-slot.slot
decided c = about 16 _ c.args.e tt (λ h. (replace_formed _ _ h).0) c.replace.ensures c.in_ok-slot.was

written : (c : After-replace-2) → c.replace-2.new.s ≡ encode (effect (with_kind 16 c.args.e) (decode c.args.s.now))
unfolding effect replace
written c = c.replace-2.ensures

pub certificate-root-requires-clause-i_in_bounds : goal.certificate-root-requires-clause-i_in_bounds
certificate-root-requires-clause-i_in_bounds c = (decided c).named.within

pub replace-requires-2-clause-named : goal.replace-requires-2-clause-named
replace-requires-2-clause-named c = (decided (goal.at.replace-requires-2-clause-named c).In_ok-slot).named

pub settle_own-requires-clause-framed : goal.settle_own-requires-clause-framed
settle_own-requires-clause-framed c =
    settle_framed _ _ (written (goal.at.settle_own-requires-clause-framed c).After-replace-2) c.requires.accepted_image

pub settle_own-requires-clause-s_value : goal.settle_own-requires-clause-s_value
settle_own-requires-clause-s_value c =
    let m = decided (goal.at.settle_own-requires-clause-s_value c).In_ok-slot in
    said_own _ _ (written (goal.at.settle_own-requires-clause-s_value c).After-replace-2) _
    (replace_own _ (accepted_phone _ c.requires.accepted_image) c.args.e m.named.id_nonzero (about_named m c.certificate-root.ensures))

pub returns : goal.returns
unfolding done
returns c =
    let m = decided (goal.at.returns c).In_ok-slot in
    tried_settled _ _ (written (goal.at.returns c).After-replace-2) m.code refl c.settle_own.ensures
