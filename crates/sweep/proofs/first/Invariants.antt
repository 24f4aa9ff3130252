use Rattle.std.proofs.Common.{ℕ, ◌<◌, ◌*◌, false}
use Rattle.sweep.proofs.first.Given as goal

abbrev pub invariant-loop-turn : goal.invariant-loop-turn
invariant-loop-turn g l = (k : ℕ) → k < 4 * l.turn → goal.F-post g l.passes k false

abbrev pub invariant-loop-i : goal.invariant-loop-i
invariant-loop-i g l = (k : ℕ) → k < l.i → goal.F-post g l.passes k false
