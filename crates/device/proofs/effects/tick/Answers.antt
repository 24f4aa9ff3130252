use Rattle.rules.specs.Effects.{tick}
use Rattle.device.proofs.effects.tick.Goals as goal

pub returns : goal.returns
unfolding tick
returns c = c.set_clock.ensures
