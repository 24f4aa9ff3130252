use mathlib.Core.Path.{sym}
use Prim.Native.Nat.{◌*◌, ◌≤◌}
use native.Mathlib.Omega.{arith}
use lib.ListN.{length, get_or-eq_default}
use Rattle.records.specs.Sizes.{event_size}
use Rattle.differences.proofs.kind_of.Goals as goal

-- behind the end
pub returns : goal.returns
returns c =
    let a = c.args in
    let behind : length a.events.now ≤ a.i * event_size = omega arith in
    sym (get_or-eq_default a.events.now 0 behind)
