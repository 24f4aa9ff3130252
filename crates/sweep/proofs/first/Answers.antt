use Rattle.std.proofs.Common.{rules}
use Rattle.sweep.specs.FirstPassing.{IsFirst}
use Rattle.sweep.proofs.first.Goals as goal

pub returns-then-passes : goal.returns-then-passes
unfolding IsFirst
returns-then-passes g c = search rules

pub returns-then-passes-2 : goal.returns-then-passes-2
unfolding IsFirst
returns-then-passes-2 g c = search rules

pub returns-then-passes-3 : goal.returns-then-passes-3
unfolding IsFirst
returns-then-passes-3 g c = search rules

pub returns-then-passes-4 : goal.returns-then-passes-4
unfolding IsFirst
returns-then-passes-4 g c = search rules

pub returns-then-passes-5 : goal.returns-then-passes-5
unfolding IsFirst
returns-then-passes-5 g c = search rules

pub returns : goal.returns
unfolding IsFirst
returns g c = search rules
