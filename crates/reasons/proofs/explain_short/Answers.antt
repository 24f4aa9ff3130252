use Rattle.std.proofs.Common.{arith}
use mathlib.Core.Path.{sym, ◌∙◌}
use lib.Seq.{length-take-le}
use Rattle.std.proofs.lemmas.Result.{err_from_is_err_and}
use Rattle.reasons.proofs.Room.{told_few, explained_none, explained_short}
use Rattle.reasons.proofs.explain_short.Goals as goal

pub returns-in_err-told : goal.returns-in_err-told
returns-in_err-told c =
    let p = err_from_is_err_and c.from_residual.result c.from_residual.ensures.1 in
    rw (p.1, p.2) (explained_none _ _ _ c.explain_whole.ensures _ c.in_err-told.was)

pub slice_bounds-all-end : goal.slice_bounds-all-end
slice_bounds-all-end c = omega (arith, told_few _ _ _ c.explain_whole.ensures c.in_ok-told.was)

pub slice_bounds-copy_from_slice-end-3 : goal.slice_bounds-copy_from_slice-end-3
slice_bounds-copy_from_slice-end-3 c = sym (length-take-le _ _ (omega (arith, told_few _ _ _ c.explain_whole.ensures c.in_ok-told.was)))

pub copy_from_slice-requires : goal.copy_from_slice-requires
copy_from_slice-requires c =
    length-take-le _ _ (omega arith) ∙ sym (length-take-le _ _ (omega (arith, told_few _ _ _ c.explain_whole.ensures c.in_ok-told.was)))

pub returns : goal.returns
returns c =
    let few = told_few _ _ _ c.explain_whole.ensures c.in_ok-told.was in
    explained_short _ _ _ c.explain_whole.ensures _ c.in_ok-told.was c.min-n.ensures (omega arith) c.copy_from_slice.ensures.after
