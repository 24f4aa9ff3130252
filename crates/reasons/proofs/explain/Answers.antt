use Rattle.reasons.proofs.Room.{explained_whole}
use borrow.Author.Rules.{rules}
use Rattle.reasons.proofs.explain.Goals as goal

pub returns-then-lines-ge-LONGEST : goal.returns-then-lines-ge-LONGEST
returns-then-lines-ge-LONGEST c = search (rules, explained_whole)
