use Rattle.reasons.proofs.slots.earlier.Goals as goal

pub returns-then-passes-n : goal.returns-then-passes-n
returns-then-passes-n c = rw c.if-passes-n.true

pub returns : goal.returns
returns c = rw c.if-passes-n.false
