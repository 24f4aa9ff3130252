use Rattle.rules.specs.Step.{done}
use Rattle.handling.proofs.Handles.{tried_still, accepted_phone}
use Rattle.certificates.proofs.{CertificateRooms.{is_installed, is_free}, MarksAndMessages.{installed, certificate_still}, Refusing.told_on}
use Rattle.certificates.proofs.install_certificate.Goals as goal

pub returns-in_err-slot : goal.returns-in_err-slot
returns-in_err-slot c = told_on _ _ c.from_residual.ensures.1 _ c.install_certificate.ensures c.in_err-slot.was

pub returns : goal.returns
unfolding done
returns c =
    let e = c.args.e in
    tried_still (is_installed _ e c.install_certificate.ensures c.in_ok-slot.was) (certificate_still _ (accepted_phone _ c.requires.accepted_image) e)
    c.done.ensures (installed _ e c.new_certificate-c.ensures c.mode.ensures c.install_certificate-2.ensures)

pub install_certificate-requires-2-clause-slot_value : goal.install_certificate-requires-2-clause-slot_value
install_certificate-requires-2-clause-slot_value c = (is_free _ c.args.e c.install_certificate.ensures c.in_ok-slot.was).0

pub install_certificate-requires-2-clause-slot_in_bounds : goal.install_certificate-requires-2-clause-slot_in_bounds
install_certificate-requires-2-clause-slot_in_bounds c = (is_free _ c.args.e c.install_certificate.ensures c.in_ok-slot.was).1
