-- Where two texts begin to differ. Assumes nothing.
use Rattle.std.proofs.Common.{◌≡◌, ◌≢◌, ℕ, ◌<◌, List, length, arith}
use Rattle.std.proofs.lemmas.Grind.{common_steps}
use Rattle.differences.specs.Compared.{FirstDifference}

-- texts of one length differ at a byte of both
pub differ_at_byte : (a b : List ℕ) (n : ℕ) → FirstDifference a b n → length a ≡ length b → a ≢ b → n < length a
differ_at_byte a b n d same other = grind (arith, common_steps)
