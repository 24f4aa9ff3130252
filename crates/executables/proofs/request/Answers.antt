use Rattle.handling.proofs.Handles.{tried_passed}
use Rattle.executables.proofs.{ActsOnExecutable.{Acts, acts_named}, ExecutablesDone.{request_done}}
use Rattle.executables.proofs.request.Goals.{In_ok-slot}
use Rattle.executables.proofs.request.Goals as goal

acts : (c : In_ok-slot) → let a = c.args in Acts 15 a.e.id a.s.now a.e c.in_ok-slot.slot
acts c = acts_named 15 _ c.args.e c.requires.accepted_image tt c.in_ok-slot.ensures

pub returns-in_err-slot : goal.returns-in_err-slot
returns-in_err-slot c = tried_passed _ _ c.in_err-slot.ensures c.from_residual.ensures.1

pub executable-x-requires : goal.executable-x-requires
executable-x-requires c =
    let a = acts (goal.at.executable-x-requires c).In_ok-slot in record { framed = a.accepted.framed; i_in_bounds = a.within }

pub returns : goal.returns
returns c = request_done (acts (goal.at.returns c).In_ok-slot) c.executable-x.ensures c.links_of.ensures c.done.ensures
