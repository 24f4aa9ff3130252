use native.Mathlib.Omega.{arith}
use mathlib.Core.{Bool.not, Path.{◌≡◌, ap}}
use Rattle.executables.specs.Acting.{permission_kind}
use Rattle.executables.proofs.ExecutableCodes.{permit_told}
use Rattle.handling.proofs.Decided.{unformed, formed}
use Rattle.executables.proofs.decisions.permission.Goals as goal
use Rattle.executables.proofs.decisions.permission.Goals.{then-given, else-given}

pub returns-then-not-action_form : goal.returns-then-not-action_form
returns-then-not-action_form c =
    unformed _ _ _ _ (permit_told _ _ (omega arith) c.args.given) (c.action_form.ensures _ c.action_count.ensures.0) (ap not c.if-not-action_form.true)

pub returns : goal.returns
returns c =
    let k : c.if-given.on_executable ≡ permission_kind c.args.given =
    elim c.if-given.branch [
      | then-given w ↦ rw w.if-given.true w.on_executable-is
      | else-given w ↦ rw w.if-given.false w.on_executable-is
    ] in
    formed _ _ _ _ (permit_told _ _ (omega arith) c.args.given) (c.action_form.ensures _ c.action_count.ensures.0) (ap not c.if-not-action_form.false)
    (rw k at c.on_executable.ensures)
