use Rattle.executables.specs.Acting.{permission_kind}
use Rattle.handling.proofs.Handles.{tried_passed}
use Rattle.executables.proofs.{ActsOnExecutable.{Acts, acts_permit}, ExecutablesDone.{permit_asks, permit_done}}
use Rattle.executables.proofs.permit.Goals.{In_ok-slot}
use Rattle.executables.proofs.permit.Goals as goal

acts : (c : In_ok-slot) → let a = c.args in Acts (permission_kind a.given) a.e.id a.s.now a.e c.in_ok-slot.slot
acts c = acts_permit _ c.args.e c.requires.accepted_image c.args.given c.in_ok-slot.ensures

pub returns-in_err-slot : goal.returns-in_err-slot
returns-in_err-slot c = tried_passed _ _ c.in_err-slot.ensures c.from_residual.ensures.1

pub permit-requires : goal.permit-requires
permit-requires c =
    let a = acts (goal.at.permit-requires c).In_ok-slot in
    record { accepted_image = a.accepted; slot_value = a.place; slot_in_bounds = a.within; id_nonzero = permit_asks c.args.given a }

pub returns : goal.returns
returns c = permit_done c.args.given (acts (goal.at.returns c).In_ok-slot) c.done.ensures c.permit.ensures
