use Rattle.std.proofs.Common.{rules}
use native.Mathlib.Omega.{arith}
use Rattle.timeline.proofs.Framed.{framed_header, in_time_stops, in_time_goes_on, in_time_ends}
use Rattle.timeline.proofs.in_time.Goals as goal

pub count-i-end-requires : goal.count-i-end-requires
count-i-end-requires c = search (rules, framed_header)

pub returns-then-not-record_fits : goal.returns-then-not-record_fits
returns-then-not-record_fits c = in_time_stops _ _ _ c.loop-i.invariant (omega arith) c.record_fits.ensures c.if-not-record_fits.true

pub loop-i-preserved : goal.loop-i-preserved
loop-i-preserved c =
    in_time_goes_on _ _ _ c.loop-i.invariant (omega arith) c.record_fits.ensures c.if-not-record_fits.false c.second-before.ensures

pub returns : goal.returns
returns c = in_time_ends _ c.loop-i.i _ c.loop-i.invariant (omega arith)
