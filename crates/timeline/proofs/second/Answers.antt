use mathlib.Core.Path.{◌∙◌}
use native.Mathlib.Omega.{arith}
use Rattle.timeline.proofs.Framed.{framed_few, framed_whole, second_there}
use Rattle.timeline.proofs.second.Goals as goal

pub overflow_mul-i : goal.overflow_mul-i
overflow_mul-i c = omega (arith, framed_few)

pub overflow_add-i : goal.overflow_add-i
overflow_add-i c = omega (arith, framed_few)

pub read-requires : goal.read-requires
read-requires c = omega (arith, framed_whole)

pub returns : goal.returns
returns c = c.read.ensures ∙ second_there _ _
