use Rattle.std.proofs.Common.{rules}
use Rattle.records.specs.Phone.{no_card}
use Rattle.laws.proofs.RulesGrow.{cards_grow}
use Rattle.sweep.proofs.FirstBroken.{broken_found}
use Rattle.opening.proofs.sweeps.cards.Goals as goal

pub returns : goal.returns
returns c = broken_found cards_grow no_card _ _ _ c.card_count.ensures.0 c.first.ensures (λ i b h p. search rules)
