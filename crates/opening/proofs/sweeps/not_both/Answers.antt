use Rattle.rules.specs.{ImageRules.not_both, Words.◌implies◌}
use Rattle.opening.proofs.sweeps.not_both.Goals as goal

pub returns : goal.returns
unfolding not_both ◌implies◌
returns c =
    rw (c.valid_in-2.ensures, c.valid_in.ensures, c.card_present-card.ensures, c.clock-clock.ensures)
