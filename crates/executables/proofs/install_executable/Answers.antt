use Rattle.handling.proofs.Handles.{tried_passed}
use Rattle.executables.proofs.{ActsOnExecutable.{Acts, acts_free}, ExecutablesDone.{install_done}}
use Rattle.executables.proofs.install_executable.Goals.{In_ok-slot}
use Rattle.executables.proofs.install_executable.Goals as goal

acts : (c : In_ok-slot) → let a = c.args in Acts 10 0 a.s.now a.e c.in_ok-slot.slot
acts c = acts_free 10 _ c.args.e c.requires.accepted_image tt c.in_ok-slot.ensures

pub returns-in_err-slot : goal.returns-in_err-slot
returns-in_err-slot c = tried_passed _ _ c.in_err-slot.ensures c.from_residual.ensures.1

pub install_executable-requires-2 : goal.install_executable-requires-2
install_executable-requires-2 c =
    let a = acts (goal.at.install_executable-requires-2 c).In_ok-slot in
    record { framed = a.accepted.framed; slot_value = a.place; slot_in_bounds = a.within }

pub returns : goal.returns
returns c = install_done (acts (goal.at.returns c).In_ok-slot) c.done.ensures c.install_executable-2.ensures
