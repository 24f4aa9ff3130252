use mathlib.Core.Path.{◌≡◌, ◌∙◌}
use Rattle.executables.specs.Acting.{permission_write}
use Rattle.executables.proofs.ExecutableWrites.{permissions_written}
use Rattle.executables.proofs.effects.permit.Goals as goal
use Rattle.executables.proofs.effects.permit.Goals.{then-given, else-given}

pub returns : goal.returns
returns c =
    let written : c.if-given.written ≡ permission_write c.args.given c.executable-w.result.permissions c.args.e.second =
    elim c.if-given.branch [
      | then-given w ↦ rw w.if-given.true (w.written-is ∙ w.set_bit-written.ensures)
      | else-given w ↦ rw w.if-given.false (w.written-is ∙ w.clear_bit-written.ensures)
    ] in
    permissions_written c.args.e c.requires.accepted_image c.requires.slot_value c.requires.slot_in_bounds c.requires.id_nonzero.0
    c.executable-w.ensures (permission_write c.args.given) written c.set_permissions.ensures
