use mathlib.Core.Path.{ap, ◌∙◌}
use Rattle.records.specs.Phone.{decode, encode, with_card}
use Rattle.rules.specs.Effects.{card_rule, card_in}
use Rattle.laws.proofs.Tables.{says, framed_as, sized_with_card}
use Rattle.device.proofs.effects.card_in.Goals as goal

pub card_rule-requires : goal.card_rule-requires
card_rule-requires c =
    framed_as _ c.card_only.ensures (sized_with_card _ _ c.requires.sized)

pub returns : goal.returns
unfolding card_in
returns c =
    let a = c.args in
    c.card_rule.ensures ∙ ap (λ p. encode (card_rule p)) (says (with_card a.e.second (decode a.s.now)) c.card_only.ensures)
