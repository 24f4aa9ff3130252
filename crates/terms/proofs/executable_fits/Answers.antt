use native.{Mathlib.Omega.arith, Mathlib.Nat.one-mul}
use lib.{Pow.shl_exact, Dec.lit<}
use Rattle.rules.specs.ImageRules.{executable_fits}
use Rattle.terms.proofs.executable_fits.Goals as goal

pub returns : goal.returns
unfolding executable_fits
returns c = rw (shl_exact 1 c.args.actions 64 (lit< tt) (omega arith), one-mul)
