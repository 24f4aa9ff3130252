use mathlib.Core.Path.{ap, ◌∙◌}
use native.Mathlib.Omega.{arith}
use lib.ListN.{length}
use Prim.Native.Nat.{◌+◌}
use Rattle.octets.specs.Octets.{put}
use Rattle.stream.specs.PrintedLines.{line}
use Rattle.stream.proofs.LinePlaces.{room_there}
use Rattle.stream.proofs.add_line.Goals as goal

pub put_line-requires : goal.put_line-requires
put_line-requires c =
    let a = c.args in
    omega (arith, room_there a.used (length a.out.now) c.requires.1, c.room-at.ensures)

pub returns : goal.returns
returns c =
    let a = c.args in
    let at = c.room-at.ensures in (
      c.put_line.ensures.0 ∙ ap (λ k. put a.out.now k (line a.n a.kind a.a)) at,
      c.put_line.ensures.1 ∙ ap (λ k. k + length (line a.n a.kind a.a)) at,
    )
