-- What it is for a contract to admit one outcome. A contract is taken as the check reads it off the source, in the module `Reads` of its
-- function: `Learnt` is what a caller learns of the arguments a, the result r and the parameters e as they are at exit. Definitions only.
use Rattle.std.specs.Prelude.{ℕ}
use mathlib.Core.{List.List, Path.◌≡◌}

module _ {K A R E : Type 0} (contract : K → A → R → E → Type 0) where
  -- "any two results it admits are equal"
  abbrev pub OneResult : Type 0
  OneResult = (κs : K) (a : A) (r r' : R) (e e' : E) → contract κs a r e → contract κs a r' e' → r ≡ r'

  -- the same where buffers are written: so are any two contents that it admits
  abbrev pub OneOutcome : (E → List (List ℕ)) → Type 0
  OneOutcome written = (κs : K) (a : A) (r r' : R) (e e' : E) → contract κs a r e → contract κs a r' e' → (r ≡ r') × (written e ≡ written e')
