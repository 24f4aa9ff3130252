use Rattle.bits.proofs.BitLaws.{or_put}
use Rattle.bits.proofs.set_bit.Goals as goal

pub returns : goal.returns
returns c = or_put 32 c.args.w c.args.k c.requires
