use Rattle.opening.proofs.ByParts.{implied, spared}
use Rattle.rules.specs.ImageRules.{owned_by_card}
use Rattle.opening.proofs.sweeps.owned_by_card.Goals as goal

pub returns-then-valid_in-c : goal.returns-then-valid_in-c
unfolding owned_by_card
returns-then-valid_in-c c =
    let told = c.operator_of.ensures in
    implied _ _ (rw⁻¹ (c.card_present-card.ensures, c.clock.ensures, c.valid_in.ensures) c.if-valid_in-c.true)
    (rw (told, c.card_present-card.ensures))

pub returns : goal.returns
unfolding owned_by_card
returns c =
    spared _ _ (rw⁻¹ (c.card_present-card.ensures, c.clock.ensures, c.valid_in.ensures) c.if-valid_in-c.false)
