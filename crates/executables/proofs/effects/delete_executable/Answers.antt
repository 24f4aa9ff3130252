use mathlib.Core.Path.{refl}
use Rattle.records.specs.Phone.{no_executable}
use Rattle.rules.specs.Effects.{delete_executable}
use Rattle.laws.proofs.Tables.{executables}
use Rattle.handling.proofs.SlotWrites.{write_is_change}
use Rattle.executables.proofs.effects.delete_executable.Goals as goal

pub returns : goal.returns
unfolding delete_executable
returns c =
    write_is_change executables c.args.e.id
    (λ x. no_executable) c.requires.accepted_image c.requires.slot_value c.requires.slot_in_bounds c.requires.id_nonzero refl
    c.clear_executable.ensures
