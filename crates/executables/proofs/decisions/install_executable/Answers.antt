use mathlib.Core.Path.{sym, ap, ◌∙◌}
use native.Mathlib.Omega.{arith}
use Rattle.records.specs.Phone.{decode}
use Rattle.rules.specs.Codes.{executable_known}
use Rattle.handling.specs.RefusalCodes.{by_code, of_room}
use Rattle.handling.proofs.{CodeRows.{here, next, rest, says}, PlanLaws.{plan_refused, plan_on, passed_on, reason_not_0}}
use Rattle.executables.proofs.{ExecutableCodes.install_executable_told, ExecutableRooms.{executable_told, executable_filled}}
use Rattle.executables.proofs.decisions.install_executable.Goals as goal

pub returns-then-not-executable_form : goal.returns-then-not-executable_form
returns-then-not-executable_form c =
    plan_refused _ _ (omega arith) (search (install_executable_told, here, says, c.executable_form.ensures (decode c.args.s.now)))

pub returns-then-not-may_act : goal.returns-then-not-may_act
returns-then-not-may_act c =
    plan_refused _ _ (omega arith) (search (install_executable_told, here, next, says, c.executable_form.ensures (decode c.args.s.now)))

pub returns-in_err-executable_room : goal.returns-in_err-executable_room
unfolding executable_known
returns-in_err-executable_room c =
    let room = executable_told _ _ (sym c.in_err-executable_room.was ∙ c.executable_room.ensures) in
    let why = reason_not_0 (of_room c.in_err-executable_room.field-0.0) in
    ap by_code (passed_on c.from_residual.ensures.1)
    ∙ plan_refused _ _ (omega arith) (search (install_executable_told, next, rest room, says, c.executable_form.ensures (decode c.args.s.now)))

pub returns : goal.returns
unfolding executable_known
returns c =
    let room = executable_told _ _ (sym c.in_ok-executable_room.was ∙ c.executable_room.ensures) in
    plan_on _ _ (executable_filled _ _ c.executable_room.ensures c.in_ok-executable_room.was)
    (search (install_executable_told, next, rest room, says, c.executable_form.ensures (decode c.args.s.now)))
