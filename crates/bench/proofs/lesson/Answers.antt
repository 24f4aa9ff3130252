use native.Mathlib.Omega.{arith}
use mathlib.Core.Path.{sym}
use lib.Seq.{length-take-le}
use Rattle.opening.proofs.Opens.{accepted_where}
use Rattle.stream.specs.Refusal.{image_refused}
use Rattle.stream.proofs.JoinedTexts.{refusal_small, start_within}
use borrow.Author.Rules.{rules}
use Rattle.bench.proofs.lesson.Goals as goal

pub slice_bounds-out-end : goal.slice_bounds-out-end
slice_bounds-out-end c =
    let a = c.told-told.result in
    let small = refusal_small a.rule a.offset in
    let size = c.large_buffer-out.ensures in
    start_within _ (image_refused a.rule a.offset) (omega (arith, small, size)) c.put_refusal-refusal.ensures

pub slice_bounds-write_all-end : goal.slice_bounds-write_all-end
slice_bounds-write_all-end c = sym (length-take-le _ _ (let a = c.told-told.result in
    let small = refusal_small a.rule a.offset in
    let size = c.large_buffer-out.ensures in
    start_within _ (image_refused a.rule a.offset) (omega (arith, small, size)) c.put_refusal-refusal.ensures))

pub all_events-requires-clause-accepted_image : goal.all_events-requires-clause-accepted_image
all_events-requires-clause-accepted_image c = accepted_where c.open-outcome.ensures c.is_err.ensures.value c.if-is_err.false

pub all_events-requires-clause-v_len : goal.all_events-requires-clause-v_len
all_events-requires-clause-v_len c = (search rules, omega (arith, c.large_buffer-out.ensures))
