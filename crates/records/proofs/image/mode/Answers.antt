use Rattle.records.specs.Phone.{decode}
use borrow.Author.Rules.{rules}
use Rattle.records.proofs.image.mode.Goals as goal

pub returns : goal.returns
unfolding decode
returns c = search rules
