use borrow.{Author.Tests.{eq-eqb, ne_eqb}}
use Rattle.terms.proofs.executable_slot_fits.Goals as goal

pub returns-then-x-eq0 : goal.returns-then-x-eq0
returns-then-x-eq0 c = rw (eq-eqb _ 0 c.if-x-eq0.true) c.zero_executable.ensures

pub returns : goal.returns
returns c = rw (ne_eqb _ 0 c.if-x-eq0.false) c.executable_fits.ensures
