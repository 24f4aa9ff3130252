use borrow.Author.Rules.{rules}
use Rattle.opening.proofs.Opens.{accepted_where, refused_where}
use Rattle.monitor.proofs.RunLaws.{broken_followed, within_events, within_room}
use Rattle.monitor.proofs.monitor_run.Goals as goal

pub returns-then-is_err : goal.returns-then-is_err
returns-then-is_err c =
    let broken = refused_where c.open-outcome.ensures c.is_err.ensures.value c.if-is_err.true in
    search (rules, broken_followed)

pub follow-requires : goal.follow-requires
follow-requires c =
    let accepted = accepted_where c.open-outcome.ensures c.is_err.ensures.value c.if-is_err.false in
    search (rules, within_events, within_room)
