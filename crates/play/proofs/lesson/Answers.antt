use native.Mathlib.Omega.{arith}
use mathlib.Core.Path.{sym}
use lib.Seq.{length-take-le}
use Prim.Native.Nat.{◌≤◌}
use lib.ListN.{length}
use Rattle.stream.specs.Refusal.{image_refused}
use Rattle.stream.proofs.JoinedTexts.{refusal_small, start_within}
use Rattle.timeline.proofs.EventCounts.{count_within}
use Rattle.play.proofs.lesson.Goals.{After-put_refusal-refusal}
use Rattle.play.proofs.lesson.Goals as goal

-- the line of a refused image is within the buffer
refused_within : (c : After-put_refusal-refusal) → c.put_refusal-refusal.result ≤ length c.put_refusal-refusal.new.out
refused_within c =
    let a = c.in-Err.told in
    start_within _ (image_refused a.rule a.offset) (omega (arith, refusal_small a.rule a.offset, c.large_buffer-out.ensures)) c.put_refusal-refusal.ensures

pub all_events-requires-clause-event_size_in_bounds : goal.all_events-requires-clause-event_size_in_bounds
all_events-requires-clause-event_size_in_bounds c =
    (omega (arith, count_within _ _ _ c.unroll.ensures c.in-Ok.is), omega (arith, c.large_buffer-out.ensures))

pub slice_bounds-out-end : goal.slice_bounds-out-end
slice_bounds-out-end c = refused_within (goal.at.slice_bounds-out-end c).After-put_refusal-refusal

pub slice_bounds-write_all-end : goal.slice_bounds-write_all-end
slice_bounds-write_all-end c = sym (length-take-le _ _ (refused_within (goal.at.slice_bounds-write_all-end c).After-put_refusal-refusal))
