use Rattle.std.proofs.Common.{rules}
use Rattle.timeline.proofs.UnrollsTold.{unrolls_broken, unrolls_unfit, unrolls_fit}
use Rattle.timeline.proofs.unroll.Goals as goal

pub returns-then-is_err : goal.returns-then-is_err
returns-then-is_err c = search (rules, unrolls_broken)

pub returns-then-not-fits : goal.returns-then-not-fits
returns-then-not-fits c = search (rules, unrolls_unfit)

pub returns : goal.returns
returns c = search (rules, unrolls_fit)
