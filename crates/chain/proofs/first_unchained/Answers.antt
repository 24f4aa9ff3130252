use Rattle.std.proofs.Common.{rules}
use Rattle.records.specs.Phone.{no_executable}
use Rattle.rules.specs.ImageRules.{i8}
use Rattle.laws.proofs.More.{all_grows}
use Rattle.sweep.proofs.FirstBroken.{broken_found}
use Rattle.chain.proofs.first_unchained.Goals as goal

pub returns : goal.returns
unfolding i8
returns c = broken_found (all_grows _) no_executable _ _ _ c.executable_slots.ensures.0 c.first.ensures (λ i b h p. search rules)
