use Rattle.handling.proofs.Handles.{tried_passed}
use Rattle.executables.proofs.{ActsOnExecutable.{Acts, acts_named}, ExecutablesDone.{delete_asks, delete_done}}
use Rattle.executables.proofs.delete_executable.Goals.{In_ok-slot}
use Rattle.executables.proofs.delete_executable.Goals as goal

acts : (c : In_ok-slot) → let a = c.args in Acts 11 a.e.id a.s.now a.e c.in_ok-slot.slot
acts c = acts_named 11 _ c.args.e c.requires.accepted_image tt c.in_ok-slot.ensures

pub returns-in_err-slot : goal.returns-in_err-slot
returns-in_err-slot c = tried_passed _ _ c.in_err-slot.ensures c.from_residual.ensures.1

pub delete_executable-requires : goal.delete_executable-requires
delete_executable-requires c =
    let a = acts (goal.at.delete_executable-requires c).In_ok-slot in
    record { accepted_image = a.accepted; slot_value = a.place; slot_in_bounds = a.within; id_nonzero = delete_asks a }

pub returns : goal.returns
returns c = delete_done (acts (goal.at.returns c).In_ok-slot) c.done.ensures c.delete_executable.ensures
