use Rattle.rules.specs.{ImageRules.one_manufacturer, Words.◌implies◌}
use Rattle.opening.proofs.sweeps.one_manufacturer.Goals as goal

pub returns : goal.returns
unfolding one_manufacturer ◌implies◌
returns c = rw (c.valid_in-2.ensures, c.valid_in.ensures)
