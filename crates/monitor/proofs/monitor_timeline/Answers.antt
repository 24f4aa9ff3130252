use Rattle.monitor.proofs.TimelineTold.{few_events, unrolled_for}
use borrow.Author.Rules.{rules}
use Rattle.monitor.proofs.monitor_timeline.Goals as goal

pub pack_count-requires : goal.pack_count-requires
pack_count-requires c = search (rules, few_events)

pub returns : goal.returns
returns c = search (rules, unrolled_for)
