use Rattle.handling.proofs.Handles.{tried_passed}
use Rattle.device.proofs.DeviceDone.{ticked, settle_asks, settle_ends}
use Rattle.device.proofs.clock.Goals as goal

pub returns-in_err-clock : goal.returns-in_err-clock
returns-in_err-clock c = tried_passed _ _ c.in_err-clock.ensures c.from_residual.ensures.1

pub settle_if-requires : goal.settle_if-requires
settle_if-requires c =
    let asks = settle_asks (ticked c.args.e c.requires.accepted_image c.runs_out-broken.ensures c.tick.ensures) in
    record { framed = asks.0; domains_known = asks.1.0; s_value = asks.1.1 }

pub returns : goal.returns
returns c =
    settle_ends (ticked c.args.e c.requires.accepted_image c.runs_out-broken.ensures c.tick.ensures) c.in_ok-clock.ensures c.settle_if.ensures
