use native.Mathlib.Omega.{arith}
use Prim.Native.Nat.{◌+◌}
use mathlib.Core.Path.{sym, ap, ◌∙◌}
use lib.ListN.{length-replicate}
use Rattle.std.proofs.lemmas.List.Edits.{length-between}
use Rattle.octets.specs.Octets.{zeros}
use Rattle.octets.proofs.ByteLaws.{put_part}
use Rattle.octets.proofs.clear.Goals as goal

pub returns : goal.returns
returns c =
    let a = c.args in
    let n = length-between a.s.now a.i (a.i + a.n) c.requires in
    put_part _ _ _ (c.fill.ensures.after (λ y e. e) ∙ ap zeros (n ∙ omega arith)) (omega arith ∙ sym (length-replicate _ _))
