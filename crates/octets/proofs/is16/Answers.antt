use Rattle.octets.proofs.ByteLaws.{high_tells, low_tells}
use Rattle.octets.proofs.is16.Goals as goal

pub returns-then-s-i : goal.returns-then-s-i
returns-then-s-i c = high_tells _ _ _ c.to_be_bytes.ensures c.if-s-i.true (c.type_inv.s _).fits c.ranges.n.fits

pub returns-else-s-i : goal.returns-else-s-i
returns-else-s-i c = low_tells _ _ _ c.to_be_bytes.ensures c.if-s-i.false (c.type_inv.s _).fits
