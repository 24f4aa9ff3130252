use Prim.Native.Nat.{◌*◌}
use native.Mathlib.Omega.{arith}
use Rattle.monitor.proofs.RunLaws.{last_event, whole_event, stepped_same}
use Rattle.monitor.proofs.one.Goals as goal

pub returns-then-events-at-lt-SIZE : goal.returns-then-events-at-lt-SIZE
returns-then-events-at-lt-SIZE c =
    let args = c.args in
    stepped_same _ _ _ _ _ (last_event args.events.now (args.i * 24) (omega arith)) c.step_accepted.ensures

pub returns : goal.returns
returns c =
    let args = c.args in
    stepped_same _ _ _ _ _ (whole_event args.events.now (args.i * 24)) c.step_accepted-2.ensures
