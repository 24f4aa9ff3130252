use Rattle.rules.specs.{ImageRules.one_in_place, Words.◌implies◌}
use Rattle.opening.proofs.sweeps.one_in_place.Goals as goal

pub returns : goal.returns
unfolding one_in_place ◌implies◌
returns c = rw (c.valid_in-2.ensures, c.valid_in.ensures)
