use mathlib.Core.Path.{◌∙◌}
use native.Mathlib.Omega.{arith}
use borrow.Author.Rules.{rules}
use Rattle.chain.proofs.Levels.{level_fits, least_none, climb_found, climb_small, climb_on}
use Rattle.chain.proofs.search.+climb.Goals as goal

pub returns-then-n-eq0 : goal.returns-then-n-eq0
returns-then-n-eq0 t c = least_none _ _ c.if-n-eq0.true

pub returns-in-None : goal.returns-in-None
returns-in-None t c = climb_found _ _ _ c.up.ensures _ c.if-n-eq0.false c.in-None.is

pub climb-requires : goal.climb-requires
climb-requires t c = (omega arith, (search rules, level_fits _ _ _ c.up.ensures c.in-Some.is))

pub one_more-requires : goal.one_more-requires
one_more-requires t c = climb_small _ _ _ c.climb.ensures c.if-n-eq0.false (omega arith)

pub returns-in-Some : goal.returns-in-Some
returns-in-Some t c = c.one_more.ensures ∙ climb_on _ _ _ c.up.ensures c.in-Some.is _ c.if-n-eq0.false _ c.climb.ensures
