use Rattle.bits.proofs.BitLaws.{and_put}
use Rattle.bits.proofs.clear_bit.Goals as goal

pub returns : goal.returns
returns c = and_put 32 c.args.w c.args.k c.ranges.w.fits c.requires
