use borrow.{Author.Tests.{eq-eqb, ne_eqb}}
use native.Mathlib.Numerals.{add-one}
use Rattle.chain.proofs.search.one_more.Goals as goal

pub returns-then-n-eq0 : goal.returns-then-n-eq0
returns-then-n-eq0 c = rw (eq-eqb _ _ c.if-n-eq0.true)

pub returns : goal.returns
returns c = rw (ne_eqb _ _ c.if-n-eq0.false) (add-one _)
