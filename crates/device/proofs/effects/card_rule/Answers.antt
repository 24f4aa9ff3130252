use mathlib.Core.{Path.{ap, ap₂, ◌∙◌}, List.map}
use Rattle.records.specs.Phone.{decode, encode, with_certificates}
use Rattle.rules.specs.{ImageRules.{has_valid_operator, operator_of}, Effects.{card_rule, retired}}
use Rattle.handling.specs.Retiring.{outgoing, retire}
use Rattle.device.proofs.effects.card_rule.Goals as goal

pub returns : goal.returns
unfolding card_rule outgoing retired
returns c =
    let p = decode c.args.s.now in
    c.retire.ensures
    ∙ ap₂ (λ v o. encode (with_certificates (map (retire v o) p.trust.certificates) p))
    (c.has_valid_operator-owned.ensures ∙ ap (has_valid_operator p.trust) c.card_present-card.ensures)
    (c.operator_of-operator.ensures ∙ ap (operator_of p.cards) c.card_present-card.ensures)
