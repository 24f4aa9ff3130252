use Prim.Native.Nat.{◌-◌, ◌≤◌}
use Rattle.vectors.proofs.run_in_pieces.Given as goal

abbrev pub invariant-loop-done : goal.invariant-loop-done
invariant-loop-done l = l.done ≤ 4103

abbrev pub decreases-loop-done : goal.decreases-loop-done
decreases-loop-done l = 4103 - l.done
