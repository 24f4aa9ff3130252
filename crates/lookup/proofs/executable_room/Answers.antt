use Prim.Native.Nat.{◌-◌}
use native.Mathlib.Omega.{arith}
use mathlib.Core.{Bool.false, Path.{sym, ◌∙◌}}
use Rattle.records.specs.Phone.{no_executable}
use Rattle.laws.proofs.{Loops.{any_back, any_back_done, any_end}, Places.somewhere}
use Rattle.lookup.proofs.SweptRoom.{free_end, free_here, free_next, free_done, executable_taken, executable_new}
use Rattle.lookup.proofs.executable_room.Goals as goal

pub loop-i-init : goal.loop-i-init
loop-i-init c =
    let n = c.executable_slots-i.result in
    (sym (any_end no_executable _ n _ (omega arith)), free_end _ _ no_executable n (omega arith))

pub returns-then-executable_has_id : goal.returns-then-executable_has_id
returns-then-executable_has_id c =
    executable_taken _ _
    (somewhere _ no_executable _ (c.loop-i.i - 1) (omega arith) (sym c.executable_has_id.ensures ∙ c.if-executable_has_id.true))

pub loop-i-preserved-then-executable_has_id-2 : goal.loop-i-preserved-then-executable_has_id-2
loop-i-preserved-then-executable_has_id-2 c =
    let v = c.loop-i in
    let other = sym c.if-executable_has_id.false ∙ c.executable_has_id.ensures in (
      any_back no_executable _ (v.i - 1) _ false false {j = v.i} v.invariant.0 (omega arith) (omega arith) other,
      free_here _ _ no_executable (v.i - 1) (omega arith) (sym c.executable_has_id-in-loop-i.ensures ∙ c.if-executable_has_id-2.true),
    )

pub loop-i-preserved : goal.loop-i-preserved
loop-i-preserved c =
    let v = c.loop-i in
    let other = sym c.if-executable_has_id.false ∙ c.executable_has_id.ensures in (
      any_back no_executable _ (v.i - 1) _ false false {j = v.i} v.invariant.0 (omega arith) (omega arith) other,
      free_next _ _ no_executable (v.i - 1) (omega arith) {j = v.i} (omega arith) v.invariant.1
          (sym c.executable_has_id-in-loop-i.ensures ∙ c.if-executable_has_id-2.false),
    )

pub returns : goal.returns
returns c =
    let v = c.loop-i in
    executable_new _ _ (sym (any_back_done no_executable _ v.i _ v.invariant.0 (omega arith))) (free_done _ _ v.invariant.1 (omega arith))
