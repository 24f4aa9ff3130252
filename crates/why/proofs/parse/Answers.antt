use Rattle.std.proofs.Common.{arith, rules, drop-cons, add-one}
use Rattle.std.proofs.lemmas.Grind.{common_steps}
use Rattle.why.specs.Number.{number_from, number}
use Rattle.why.proofs.Numbers.{few_places, place_more}
use Rattle.why.proofs.parse.Goals as goal

pub returns-then-is_empty : goal.returns-then-is_empty
unfolding number
returns-then-is_empty c = grind (arith, common_steps)

pub loop-b-init : goal.loop-b-init
unfolding number
loop-b-init c = grind (arith, common_steps)

pub returns-then-not-is_ascii_digit : goal.returns-then-not-is_ascii_digit
unfolding number_from
returns-then-not-is_ascii_digit c = grind (arith, common_steps, drop-cons)

pub overflow_mul-n : goal.overflow_mul-n
overflow_mul-n c = omega (arith, few_places c.loop-b.n c.loop-b.b-index c.loop-b.invariant.1 (omega arith))

pub overflow_add-n : goal.overflow_add-n
overflow_add-n c = omega (arith, few_places c.loop-b.n c.loop-b.b-index c.loop-b.invariant.1 (omega arith))

pub loop-b-preserved : goal.loop-b-preserved
unfolding number_from
loop-b-preserved c = (omega arith, place_more _ _ _ c.loop-b.invariant.1 (search rules), grind (arith, common_steps, drop-cons, add-one))

pub returns : goal.returns
unfolding number_from
returns c = grind (arith, common_steps)
