use Rattle.std.proofs.Common.{rules}
use Rattle.records.specs.Phone.{no_row}
use Rattle.rules.specs.ImageRules.{row_fits}
use Rattle.laws.proofs.More.{all_grows}
use Rattle.sweep.proofs.FirstBroken.{broken_found}
use Rattle.opening.proofs.sweeps.rows_fit.Goals as goal

pub returns : goal.returns
returns c = broken_found (all_grows row_fits) no_row _ _ _ c.action_count.ensures.0 c.first.ensures (λ i b h p. search rules)
