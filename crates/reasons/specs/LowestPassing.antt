-- The record with the lowest id of those whose slots pass a test. Definitions only.
use Rattle.std.specs.Prelude.{ℕ, ◌<◌, ◌≡◌, Bool, List, length, get_or}
use Rattle.records.specs.{Phone.no_certificate, declared.Certificate.Certificate}
use Rattle.explanations.specs.Why.{lowest}

-- the test answers of slot i what t does of the record there
abbrev pub Tells : (ℕ → Certificate → Bool → Type 0) → List Certificate → (Certificate → Bool) → Type 0
Tells gives l t =
    (i : ℕ) (b : Bool) → i < length l → gives i (get_or l i no_certificate) b → b ≡ t (get_or l i no_certificate)

-- whatever the test tells, r is the one with the lowest id above n of the records that pass it
unfoldable pub IsLowest : (ℕ → Certificate → Bool → Type 0) → ℕ → List Certificate → Certificate → Type 0
IsLowest gives n l r = (t : Certificate → Bool) → Tells gives l t → r ≡ lowest t n l
