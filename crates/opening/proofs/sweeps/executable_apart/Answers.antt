use Rattle.std.proofs.Common.{rules}
use native.Mathlib.Omega.{arith}
use mathlib.Core.Path.{sym, ap, ◌∙◌}
use Rattle.records.specs.Phone.{no_executable}
use Rattle.sweep.proofs.FirstBroken.{all_below}
use Rattle.opening.proofs.ByParts.{zero_apart, not_apart}
use Rattle.opening.proofs.sweeps.executable_apart.Goals as goal

pub returns-then-id-eq0 : goal.returns-then-id-eq0
returns-then-id-eq0 c = zero_apart (λ y. y.id) _ _ (sym (ap (λ y. y.id) c.executable-id.ensures) ∙ c.if-id-eq0.true)

pub returns : goal.returns
returns c = all_below _ no_executable _ _ _ (omega arith) _ c.first.ensures c.is_none.ensures (λ j b h p. search (rules, not_apart))
