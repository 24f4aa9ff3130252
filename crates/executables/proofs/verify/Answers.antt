use Rattle.handling.proofs.Handles.{tried_passed}
use Rattle.executables.proofs.{ActsOnExecutable.{Acts, acts_named}, ExecutablesDone.{verify_asks, verify_done}}
use Rattle.executables.proofs.verify.Goals.{In_ok-slot}
use Rattle.executables.proofs.verify.Goals as goal

acts : (c : In_ok-slot) → let a = c.args in Acts 12 a.e.id a.s.now a.e c.in_ok-slot.slot
acts c = acts_named 12 _ c.args.e c.requires.accepted_image tt c.in_ok-slot.ensures

pub returns-in_err-slot : goal.returns-in_err-slot
returns-in_err-slot c = tried_passed _ _ c.in_err-slot.ensures c.from_residual.ensures.1

pub verify-told-requires : goal.verify-told-requires
verify-told-requires c =
    let a = acts (goal.at.verify-told-requires c).In_ok-slot in
    record { accepted_image = a.accepted; slot_value = a.place; slot_in_bounds = a.within; id_nonzero = verify_asks a }

pub returns : goal.returns
returns c = verify_done (acts (goal.at.returns c).In_ok-slot) c.verify-told.ensures.1 c.done.ensures c.verify-told.ensures.0
