use Rattle.monitor.proofs.WhyTold.{few_told, asked}
use borrow.Author.Rules.{rules}
use Rattle.monitor.proofs.monitor_why.Goals as goal

pub pack_count-requires : goal.pack_count-requires
pack_count-requires c = search (rules, few_told)

pub returns : goal.returns
returns c = search (rules, asked)
