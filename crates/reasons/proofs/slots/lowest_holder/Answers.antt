use Rattle.std.proofs.Common.{rules}
use Rattle.reasons.specs.LowestPassing.{IsLowest}
use Rattle.reasons.proofs.slots.lowest_holder.Goals as goal

pub returns : goal.returns
unfolding IsLowest
returns c = c.lowest.ensures _ (λ i b h p. search rules)
