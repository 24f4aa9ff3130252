use Rattle.rules.specs.Effects.{install_executable}
use Rattle.laws.proofs.Tables.{executables}
use Rattle.handling.proofs.SlotWrites.{write_is_fill}
use Rattle.executables.proofs.effects.install_executable.Goals as goal

pub returns : goal.returns
unfolding install_executable
returns c =
    write_is_fill executables _ c.requires.framed c.requires.slot_value c.requires.slot_in_bounds c.write_executable.ensures
