use Rattle.handling.proofs.Handles.{tried_passed}
use Rattle.device.proofs.DeviceDone.{powered_up, settle_asks, settle_ends}
use Rattle.device.proofs.power_up.Goals as goal

pub returns-in_err-power_up : goal.returns-in_err-power_up
returns-in_err-power_up c = tried_passed _ _ c.in_err-power_up.ensures c.from_residual.ensures.1

pub settle-requires : goal.settle-requires
settle-requires c =
    let asks = settle_asks (powered_up c.args.e c.requires.accepted_image c.power_up-2.ensures) in record { framed = asks.0; domains_known = asks.1.0 }

pub returns : goal.returns
returns c = settle_ends (powered_up c.args.e c.requires.accepted_image c.power_up-2.ensures) c.in_ok-power_up.ensures c.settle.ensures
