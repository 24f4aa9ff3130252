use native.Mathlib.Omega.{arith}
use Rattle.timeline.proofs.Framed.{framed_few, framed_whole, fits_by}
use Rattle.timeline.proofs.record_fits.Goals as goal

pub overflow_mul-at : goal.overflow_mul-at
overflow_mul-at c = omega (arith, framed_few)

pub overflow_add-at : goal.overflow_add-at
overflow_add-at c = omega (arith, framed_few)

pub read-requires : goal.read-requires
read-requires c = omega (arith, framed_whole)

pub overflow_add-at-2 : goal.overflow_add-at-2
overflow_add-at-2 c = omega (arith, framed_few)

pub read-requires-2 : goal.read-requires-2
read-requires-2 c = omega (arith, framed_whole)

pub overflow_add-at-3 : goal.overflow_add-at-3
overflow_add-at-3 c = omega (arith, framed_few)

pub read-requires-3 : goal.read-requires-3
read-requires-3 c = omega (arith, framed_whole)

pub returns : goal.returns
returns c = fits_by _ _ _ c.read.ensures c.read-2.ensures c.read-3.ensures
