use Rattle.monitor.proofs.RunLaws.{count_whole, count_short}
use Rattle.monitor.proofs.event_count.Goals as goal

pub returns-then-n-eq0 : goal.returns-then-n-eq0
returns-then-n-eq0 c = count_whole _ c.if-n-eq0.true

pub returns : goal.returns
returns c = count_short _ c.if-n-eq0.false
