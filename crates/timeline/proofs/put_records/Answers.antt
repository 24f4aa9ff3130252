use Rattle.std.proofs.Common.{rules}
use native.Mathlib.Omega.{arith}
use Rattle.timeline.proofs.{Framed.framed_header, EventsPlaced.{unrolling_goes_on, unrolling_ends}}
use Rattle.timeline.proofs.put_records.Goals as goal

pub count-i-end-requires : goal.count-i-end-requires
count-i-end-requires c = search (rules, framed_header)

pub loop-i-preserved : goal.loop-i-preserved
loop-i-preserved c =
    let more = c.put_record-n.ensures in
    unrolling_goes_on _ _ _ _ _ _ _ c.loop-i.invariant (search rules) (omega arith) more.0 more.1 c.second-before.ensures

pub returns : goal.returns
returns c = unrolling_ends _ _ _ _ _ _ c.loop-i.i c.loop-i.invariant (omega arith)
