-- An operator root that gives way to a card, by a write of its mark. Assumes nothing.
use Prim.Native.Nat.{ℕ}
use mathlib.Core.{Bool.{Bool, true, false, cond}, Path.{◌≡◌, sym, ap, ◌∙◌}}
use Rattle.records.specs.{Phone.marked, declared.Certificate.Certificate}
use Rattle.handling.specs.Retiring.{outgoing, retire}

-- x is what was read, and c what stands in the slot
-- an operator root that has to go is marked invalid, and any other record is not touched
module _ (every : Bool) (operator : ℕ) {x c : Certificate} (q : x ≡ c) {b : Bool} (e : b ≡ outgoing every operator x) where
  retired_by : (y : Bool) → b ≡ y → cond y (marked 0 c) c ≡ retire every operator c
  retired_by y h = ap (λ z. cond z (marked 0 c) c) (sym h ∙ e ∙ ap (outgoing every operator) q)

  pub retire_written : b ≡ true → marked 0 c ≡ retire every operator c
  retire_written h = retired_by true h

  pub retire_skipped : b ≡ false → c ≡ retire every operator c
  retire_skipped h = retired_by false h
