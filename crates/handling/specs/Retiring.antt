-- The operator roots on the phone that give way to a card. Definitions only.
use Rattle.std.specs.Prelude.{ℕ}
use mathlib.Core.{Bool.{Bool, not, ◌&&◌, ◌||◌}, List.map}
use Rattle.std.specs.Prelude.{eqb}
use Rattle.records.specs.{Phone.{Phone, with_certificates, marked}, declared.Certificate.Certificate}
use Rattle.rules.specs.{Words.at, Effects.phone_operator_root}

-- an operator root on the phone that has to go: all of them, or those of another owner
unfoldable pub outgoing : Bool → ℕ → Certificate → Bool
outgoing every operator c = phone_operator_root c && (every || not (eqb c.owner operator))

abbrev pub retire : Bool → ℕ → Certificate → Certificate
retire every operator = at (outgoing every operator) (marked 0)

abbrev pub retiring : Bool → ℕ → Phone → Phone
retiring every operator p = with_certificates (map (retire every operator) p.trust.certificates) p
