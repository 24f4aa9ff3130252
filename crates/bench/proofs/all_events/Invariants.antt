use Prim.Native.Nat.{◌≤◌}
use lib.ListN.{length}
use Rattle.rules.specs.AcceptedImage.{AcceptedImage}
use Rattle.bench.proofs.all_events.Given as goal

abbrev pub invariant-loop-n : goal.invariant-loop-n
invariant-loop-n l = AcceptedImage l.s × (l.used ≤ length l.out)
