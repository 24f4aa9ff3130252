use Prim.Native.Nat.{ℕ, ◌/◌, ◌^◌}
use mathlib.Core.Path.{ap}
use lib.{Dec.eqb, Bits.and_mask}
use Rattle.bits.specs.Bits.{digit}
use Rattle.bits.proofs.has_bit.Goals as goal

pub returns : goal.returns
unfolding digit
returns c = ap (λ (x : ℕ). eqb x 1) (and_mask (c.args.w / 2 ^ c.args.k) 1)
