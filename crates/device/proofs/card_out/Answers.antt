use Rattle.handling.proofs.Handles.{tried_passed}
use Rattle.device.proofs.DeviceDone.{taken_out, settle_asks, settle_ends}
use Rattle.device.proofs.card_out.Goals as goal

pub returns-in_err-card_out : goal.returns-in_err-card_out
returns-in_err-card_out c = tried_passed _ _ c.in_err-card_out.ensures c.from_residual.ensures.1

pub settle-requires : goal.settle-requires
settle-requires c =
    let asks = settle_asks (taken_out c.args.e c.requires.accepted_image c.card_out-2.ensures) in record { framed = asks.0; domains_known = asks.1.0 }

pub returns : goal.returns
returns c = settle_ends (taken_out c.args.e c.requires.accepted_image c.card_out-2.ensures) c.in_ok-card_out.ensures c.settle.ensures
