use Rattle.std.proofs.Common.{rules}
use native.Mathlib.Omega.{arith}
use Rattle.records.specs.Phone.{no_certificate}
use Rattle.sweep.proofs.FirstBroken.{all_below}
use Rattle.opening.proofs.sweeps.key_apart.Goals as goal

pub returns : goal.returns
returns c = all_below _ no_certificate _ _ _ (omega arith) _ c.first.ensures c.is_none.ensures (λ j b h p. search rules)
