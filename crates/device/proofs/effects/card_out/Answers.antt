use Rattle.rules.specs.Effects.{card_out}
use Rattle.device.proofs.effects.card_out.Goals as goal

pub returns : goal.returns
unfolding card_out
returns c = c.set_card.ensures
