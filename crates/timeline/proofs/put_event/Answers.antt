use native.Mathlib.Omega.{arith}
use Rattle.timeline.proofs.EventsPlaced.{event_copied}
use Rattle.timeline.proofs.put_event.Goals as goal

pub returns : goal.returns
returns c =
    event_copied _ c.args.n _ c.requires (omega arith) _ c.copy_from_slice.ensures.after
