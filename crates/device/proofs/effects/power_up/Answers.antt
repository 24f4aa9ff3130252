use borrow.{Author.Tests.{eq-eqb, ne_eqb}}
use Rattle.rules.specs.Effects.{power_up}
use Rattle.device.proofs.effects.power_up.Goals as goal

pub returns-then-e-eq0 : goal.returns-then-e-eq0
unfolding power_up
returns-then-e-eq0 c = rw (eq-eqb _ _ c.if-e-eq0.true) c.card_out.ensures

pub returns : goal.returns
unfolding power_up
returns c = rw (ne_eqb _ _ c.if-e-eq0.false) c.card_in.ensures
