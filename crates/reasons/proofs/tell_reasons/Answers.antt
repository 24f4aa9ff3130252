use borrow.Author.Rules.{rules}
use native.Mathlib.Omega.{arith}
use Rattle.reasons.proofs.HolderLines.{rest_all, rest_ended, rest_stops, rest_goes_on}
use Rattle.reasons.proofs.tell_reasons.Goals as goal

pub loop-i-init : goal.loop-i-init
loop-i-init c = rest_all _ _ _ _ c.certificate_slots-slots.ensures.0

pub shape_of-lines-then-c-eq0 : goal.shape_of-lines-then-c-eq0
shape_of-lines-then-c-eq0 c = c.loop-i.invariant.room

pub returns-then-c-eq0 : goal.returns-then-c-eq0
returns-then-c-eq0 c = rest_stops _ _ _ _ _ _ _ c.loop-i.invariant _ c.lowest_holder-c.ensures c.if-c-eq0.true

pub tell-requires : goal.tell-requires
tell-requires c =
    let r = c.loop-i.invariant.room in
    omega arith

pub loop-i-preserved : goal.loop-i-preserved
loop-i-preserved c =
    rest_goes_on _ _ _ _ _ _ _ c.loop-i.invariant _ c.lowest_holder-c.ensures c.if-c-eq0.false (omega arith)
    (search rules) c.requires.line_size_in_bounds c.reason.ensures c.tell.ensures

pub shape_of-lines : goal.shape_of-lines
shape_of-lines c = c.loop-i.invariant.room

pub returns : goal.returns
returns c = rest_ended _ _ _ _ _ _ _ c.loop-i.invariant (omega arith)
