use Rattle.opening.proofs.ByParts.{card_owned, not_asked}
use Rattle.opening.proofs.sweeps.card_owns.Goals as goal

pub returns-then-on_a_card : goal.returns-then-on_a_card
returns-then-on_a_card c = card_owned _ _ c.on_a_card.ensures c.if-on_a_card.true c.operator_of.ensures

pub returns : goal.returns
returns c = not_asked _ _ c.on_a_card.ensures c.if-on_a_card.false
