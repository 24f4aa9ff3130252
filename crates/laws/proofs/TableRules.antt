-- What rule I6 says of the bytes of a row. Assumes nothing.
use Prim.Native.Nat.{ℕ, zero, suc, ◌≤◌}
use mathlib.Core.{List.{List, [], ◌∷◌, Memᴰ}, Path.refl}
use native.Mathlib.Omega.{arith}
use lib.{Dec.{T, leb→le}, ListN.get_or}
use Rattle.records.specs.{Layout.row_byte, Phone.{Phone, no_row, row_at}, declared.Row.Row}
use Rattle.rules.specs.ImageRules.{row_fits}
use Rattle.laws.proofs.{Tests.tests, Accepted.Accepted}

-- the test, byte by byte
record Fair (r : Row) : Type 0 where
  first : r.untrusted ≤ r.operator
  second : r.untrusted ≤ r.manufacturer
  third : r.untrusted ≤ r.third
  most_first : r.operator ≤ 2
  most_second : r.manufacturer ≤ 2
  most_third : r.third ≤ 2

fair : (r : Row) → T (row_fits r) → Fair r
unfolding row_fits
fair r h = record {
  first = search (tests, leb→le) depth 8;
  second = search (tests, leb→le) depth 8;
  third = search (tests, leb→le) depth 8;
  most_first = search (tests, leb→le) depth 8;
  most_second = search (tests, leb→le) depth 8;
  most_third = search (tests, leb→le) depth 8;
}

row_small : (r : Row) → T (row_fits r) → (d : ℕ) → row_byte r d ≤ 2
row_small r h zero = let f = fair r h in omega arith
row_small r h (suc zero) = let f = fair r h in omega arith
row_small r h (suc (suc zero)) = let f = fair r h in omega arith
row_small r h (suc (suc (suc zero))) = let f = fair r h in omega arith
row_small r h (suc (suc (suc (suc d)))) = omega arith

row_least : (r : Row) → T (row_fits r) → (d : ℕ) → d ≤ 3 → row_byte r 0 ≤ row_byte r d
row_least r h zero l = omega arith
row_least r h (suc zero) l = let f = fair r h in omega arith
row_least r h (suc (suc zero)) l = let f = fair r h in omega arith
row_least r h (suc (suc (suc zero))) l = let f = fair r h in omega arith
row_least r h (suc (suc (suc (suc d)))) l = absurd (omega arith)

-- a row past the end is all 0, and fits
fits_at : (l : List Row) (a : ℕ) → ((r : Row) → Memᴰ r l → T (row_fits r)) → T (row_fits (get_or l a no_row))
unfolding row_fits
fits_at [] a h = tt
fits_at (r ∷ l) zero h = h r (Memᴰ.head refl)
fits_at (r ∷ l) (suc a) h = fits_at l a (λ s m. h s (Memᴰ.tail m))

pub row_at_small : (p : Phone) → Accepted p → (a d : ℕ) → row_byte (row_at p a) d ≤ 2
row_at_small p ok a d = row_small (row_at p a) (fits_at p.table a ok.table) d

pub row_at_least : (p : Phone) → Accepted p → (a d : ℕ) → d ≤ 3 → row_byte (row_at p a) 0 ≤ row_byte (row_at p a) d
row_at_least p ok a d l = row_least (row_at p a) (fits_at p.table a ok.table) d l
