use borrow.Author.Rules.{rules}
use Rattle.why.proofs.RunOfEvents.{ran_none, ran_one_more}
use Rattle.why.proofs.run_events.Goals as goal

pub loop-n-init : goal.loop-n-init
loop-n-init c = (search rules, ran_none _)

pub loop-n-preserved : goal.loop-n-preserved
loop-n-preserved c = (search rules, search (rules, ran_one_more))
