use Rattle.monitor.proofs.RunLaws.{packed_stepped}
use borrow.Author.Rules.{rules}
use Rattle.monitor.proofs.monitor_step.Goals as goal

pub returns : goal.returns
returns c = search (rules, packed_stepped)
