use borrow.Author.Rules.{rules}
use Rattle.timeline.proofs.EventsPlaced.{clock_placed}
use Rattle.timeline.proofs.put_clock.Goals as goal

pub returns : goal.returns
returns c = search (rules, clock_placed)
