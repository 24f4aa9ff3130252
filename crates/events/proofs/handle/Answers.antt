use native.Mathlib.Omega.{arith}
use Rattle.events.proofs.Steps.{tried_of_kind, no_such_kind, no_such_actor}
use Rattle.events.proofs.handle.Goals as goal

pub returns-then-actor-gt4 : goal.returns-then-actor-gt4
returns-then-actor-gt4 c = no_such_actor c.told.ensures (omega arith)

pub returns-in_default : goal.returns-in_default
returns-in_default c = no_such_kind c.told-in_default.ensures c.kind.ensures (λ h. omega arith)

pub returns-in-1 : goal.returns-in-1
returns-in-1 c = search tried_of_kind

pub returns-in-2 : goal.returns-in-2
returns-in-2 c = search tried_of_kind

pub returns-in-3 : goal.returns-in-3
returns-in-3 c = search tried_of_kind

pub returns-in-4 : goal.returns-in-4
returns-in-4 c = search tried_of_kind

pub returns-in-5 : goal.returns-in-5
returns-in-5 c = search tried_of_kind

pub returns-in-6 : goal.returns-in-6
returns-in-6 c = search tried_of_kind

pub returns-in-7 : goal.returns-in-7
returns-in-7 c = search tried_of_kind

pub returns-in-8 : goal.returns-in-8
returns-in-8 c = search tried_of_kind

pub returns-in-9 : goal.returns-in-9
returns-in-9 c = search tried_of_kind

pub returns-in-10 : goal.returns-in-10
returns-in-10 c = search tried_of_kind

pub returns-in-11 : goal.returns-in-11
returns-in-11 c = search tried_of_kind

pub returns-in-12 : goal.returns-in-12
returns-in-12 c = search tried_of_kind

pub returns-in-13 : goal.returns-in-13
returns-in-13 c = search tried_of_kind

pub returns-in-14 : goal.returns-in-14
returns-in-14 c = search tried_of_kind

pub returns-in-15 : goal.returns-in-15
returns-in-15 c = search tried_of_kind

pub returns-in-16 : goal.returns-in-16
returns-in-16 c = search tried_of_kind
