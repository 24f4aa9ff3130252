use native.Mathlib.Omega.{arith}
use borrow.Author.Rules.{rules}
use Rattle.timeline.specs.Timeline.{timed_at}
use Rattle.timeline.proofs.{Framed.{framed_few, event_within}, EventsPlaced.{event_part, placed_two}}
use Rattle.timeline.proofs.put_record.Goals as goal

pub overflow_mul-at : goal.overflow_mul-at
overflow_mul-at c = omega (arith, framed_few)

pub overflow_add-at : goal.overflow_add-at
overflow_add-at c = omega (arith, framed_few)

pub overflow_add-at-2 : goal.overflow_add-at-2
overflow_add-at-2 c = omega (arith, framed_few)

pub overflow_add-n : goal.overflow_add-n
overflow_add-n c = omega (arith, framed_few)

pub overflow_add-at-then-clock-now : goal.overflow_add-at-then-clock-now
overflow_add-at-then-clock-now c = omega (arith, framed_few)

pub slice_bounds-put_event-end : goal.slice_bounds-put_event-end
slice_bounds-put_event-end c = search (rules, event_within)

pub returns-then-clock-now : goal.returns-then-clock-now
returns-then-clock-now c =
    let a = c.args in
    placed_two a.events.now _ _ (timed_at a.t.now a.i) (event_part a.t.now a.i) c.second-now.ensures (omega arith)
    c.put_clock.ensures c.put_event.ensures

pub overflow_add-at-3 : goal.overflow_add-at-3
overflow_add-at-3 c = omega (arith, framed_few)

pub slice_bounds-put_event-end-2 : goal.slice_bounds-put_event-end-2
slice_bounds-put_event-end-2 c = search (rules, event_within)
