use mathlib.Core.{Bool.not, Path.ap}
use Rattle.handling.proofs.Handles.{tried_passed}
use Rattle.device.proofs.DeviceDone.{put_in, put_in_only, settle_asks, settle_ends}
use Rattle.device.proofs.card_in.Goals as goal

pub returns-in_err-card_in : goal.returns-in_err-card_in
returns-in_err-card_in c = tried_passed _ _ c.in_err-card_in.ensures c.from_residual.ensures.1

pub returns-then-not-has_marked_operator : goal.returns-then-not-has_marked_operator
returns-then-not-has_marked_operator c =
    put_in_only c.args.e c.requires.accepted_image c.in_ok-card_in.ensures c.has_marked_operator.ensures (ap not c.if-not-has_marked_operator.true)
    c.done.ensures c.card_only.ensures

pub settle-requires : goal.settle-requires
settle-requires c =
    let asks = settle_asks (put_in c.args.e c.requires.accepted_image c.card_in-2.ensures) in record { framed = asks.0; domains_known = asks.1.0 }

pub returns : goal.returns
returns c = settle_ends (put_in c.args.e c.requires.accepted_image c.card_in-2.ensures) c.in_ok-card_in.ensures c.settle.ensures
