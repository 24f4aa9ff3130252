use Rattle.bits.proofs.BitLaws.{or_put}
use Rattle.bits.proofs.slots.with_slot.Goals as goal

pub returns : goal.returns
returns c = or_put 64 c.args.w c.args.i c.requires
