use Rattle.octets.specs.Octets.{be}
use borrow.Author.Rules.{rules}
use Rattle.octets.proofs.U32Number.read.Goals as goal

pub returns : goal.returns
unfolding be
returns c = search rules
