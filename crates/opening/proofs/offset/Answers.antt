use Rattle.opening.proofs.Offsets.{small}
use native.Mathlib.Omega.{arith}
use Rattle.opening.proofs.offset.Goals as goal

pub reckoned-requires : goal.reckoned-requires
reckoned-requires c = omega (arith, small _ c.span_of-here.ensures)
