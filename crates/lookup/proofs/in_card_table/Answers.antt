use Rattle.std.proofs.Common.{rules}
use Rattle.records.specs.Phone.{no_card}
use Rattle.rules.specs.ImageRules.{in_card_table}
use Rattle.sweep.proofs.FirstFound.{some_found}
use Rattle.lookup.proofs.in_card_table.Goals as goal

pub returns : goal.returns
unfolding in_card_table
returns c = some_found _ _ no_card _ c.card_count.ensures.0 _ c.first.ensures c.is_some.ensures (λ i b h p. search rules)
