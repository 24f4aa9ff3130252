use Rattle.std.proofs.Common.{rules}
use native.Mathlib.Omega.{arith}
use mathlib.Core.Path.{sym, ◌∙◌}
use Rattle.opening.proofs.Opens.{breaks_i1}
use Rattle.records.proofs.RoundTrip.{frame}
use Rattle.opening.proofs.open.Goals as goal

pub returns-then-not-is_framed : goal.returns-then-not-is_framed
returns-then-not-is_framed c = search (rules, breaks_i1)

pub open_framed-requires-clause-framed : goal.open_framed-requires-clause-framed
open_framed-requires-clause-framed c =
    let bytes = c.type_inv.s in frame _ (λ i. omega (arith, bytes i)) (sym c.is_framed.ensures ∙ c.if-not-is_framed.false)
