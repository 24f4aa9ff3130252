use Rattle.reasons.proofs.slots.is_current.Goals as goal

pub returns : goal.returns
returns c = rw (c.in_date.ensures, c.clock.ensures)
