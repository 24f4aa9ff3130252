use Rattle.laws.proofs.Tables.{certificates}
use Rattle.handling.proofs.SlotWrites.{write_is_fill}
use Rattle.certificates.proofs.effects.install_certificate.Goals as goal

pub returns : goal.returns
returns c =
    write_is_fill certificates _ c.requires.framed c.requires.slot_value c.requires.slot_in_bounds c.write_certificate.ensures
