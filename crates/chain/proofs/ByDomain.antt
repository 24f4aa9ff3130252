-- I8 of one executable, by the good slots of the domain that it has: I7 leaves none a domain above 3. Assumes nothing.
use Prim.Native.Nat.{ℕ, ◌≤◌, ◌<◌}
use mathlib.Core.{Bool.{Bool, not}, List.Memᴰ, Logic.◌≢◌, Path.{◌≡◌, refl, ap, ◌∙◌}}
use borrow.Author.Tests.{eq-eqb, ne_eqb}
use lib.{Dec.T, ListN.length}
use Rattle.records.specs.{Phone.{Trust, Phone, executable_at, no_executable}, declared.Executable.Executable}
use Rattle.rules.specs.ImageRules.{i7, executable_slot_fits, chained_fits}
use Rattle.laws.proofs.{Promise.executable_domain, Fits.executable_out, Lists.all_out, Slots.mem_at, Tests.tests}
use Rattle.chain.specs.SlotWords.{chained_in}

known : (p : Phone) → T (i7 p) → (x : Executable) → Memᴰ x p.executables → x.domain ≤ 3
unfolding i7
known p h x m =
    let n = length p.table in
    executable_domain x (executable_out n x (all_out (executable_slot_fits n) p.executables (search tests) x m))

pub domain_known : (p : Phone) → T (i7 p) → (i : ℕ) → i < length p.executables → {x : Executable} → x ≡ executable_at p i → x.domain ≤ 3
domain_known p h i b e = rw e (known p h (executable_at p i) (mem_at p.executables i no_executable b))

-- what is asked of x in its own domain is what I8 asks of it
module _ (t : Trust) (x : Executable) where
  pub fits_own : x.domain ≢ 0 → {b : Bool} → b ≡ chained_in x.domain t x → b ≡ chained_fits t x
  unfolding chained_in
  fits_own h e = e ∙ rw (eq-eqb x.domain x.domain refl, ne_eqb x.domain 0 h)

-- and where it does not chain, that is what I8 has against y, of whose slot x was read
pub unfit_own : (t : Trust) {x y : Executable} → x ≡ y → x.domain ≢ 0 → {b : Bool} → b ≡ chained_in x.domain t x → not b ≡ not (chained_fits t y)
unfit_own t {x} q h e = ap not (fits_own t x h e ∙ ap (chained_fits t) q)
