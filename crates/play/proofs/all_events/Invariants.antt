use Prim.Native.Nat.{◌≤◌}
use lib.ListN.{length}
use Rattle.rules.specs.AcceptedImage.{AcceptedImage}
use Rattle.play.proofs.all_events.Given as goal

abbrev pub invariant-loop-i : goal.invariant-loop-i
invariant-loop-i l = AcceptedImage l.s × (l.used ≤ length l.out)
