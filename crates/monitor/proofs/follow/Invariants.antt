use mathlib.Core.Path.{◌≡◌}
use lib.ListN.{length}
use Rattle.rules.specs.AcceptedImage.{AcceptedImage}
use Rattle.monitor.proofs.RunLaws.{Left}
use Rattle.monitor.proofs.follow.Given as goal

abbrev pub invariant-loop-i : goal.invariant-loop-i
invariant-loop-i l = (length l.image ≡ length l.initial.image) × AcceptedImage l.image × Left l.initial.image l.events l.initial.answers l.n l.image
    l.answers l.i
