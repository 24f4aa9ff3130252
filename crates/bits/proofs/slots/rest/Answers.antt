use Rattle.bits.proofs.WordLaws.{rest_of}
use Rattle.bits.proofs.slots.rest.Goals as goal

pub returns : goal.returns
returns c = rest_of 64 c.args.w c.requires c.ranges.w.fits
