use borrow.{Author.Tests.{eq-eqb, ne_eqb}}
use Rattle.rules.specs.ImageRules.{known_place}
use Rattle.lookup.proofs.known_place.Goals as goal

pub returns-then-n-eq0 : goal.returns-then-n-eq0
unfolding known_place
returns-then-n-eq0 c = rw (eq-eqb _ 0 c.if-n-eq0.true)

pub returns : goal.returns
unfolding known_place
returns c = rw (ne_eqb _ 0 c.if-n-eq0.false) c.in_card_table.ensures
