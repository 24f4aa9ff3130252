-- A write of one field makes of the executable that is named what the rules make of it. Assumes nothing.
use Prim.Native.Nat.{ℕ, ◌<◌}
use mathlib.Core.{List.List, Path.{◌≡◌, ap, ◌∙◌}}
use lib.ListN.{length, set}
use Rattle.records.specs.{Phone.{in_domain, permitted, with_executables, decode, encode, executable_at}, declared.Executable.Executable, declared.Event.Event}
use Rattle.rules.specs.{declared.Chained.Chained, AcceptedImage.AcceptedImage, Words.first_place, Chains.chain_of, Codes.is_executable}
use Rattle.rules.specs.Effects.{verify, permit}
use Rattle.laws.proofs.Tables.{executables}
use Rattle.handling.proofs.SlotWrites.{write_is_change}

-- y is written in a slot
abbrev Written : List ℕ → List ℕ → ℕ → Executable → Type 0
Written l l' slot y = l' ≡ encode (with_executables (set (decode l).executables slot y) (decode l))

-- the executable is in the slot, x is what was read there, and l' what is written
module _ {l l' : List ℕ} {slot : ℕ} (e : Event) (a : AcceptedImage l) (at : slot ≡ first_place (is_executable e.id) (decode l).executables)
    (h : slot < length (decode l).executables) (n : 0 < e.id) {x : Executable} (read : x ≡ executable_at (decode l) slot) where
  pub domain_written : {r : Chained} → r ≡ chain_of (decode l).trust x.signing → Written l l' slot (in_domain r.domain (executable_at (decode l) slot))
      → l' ≡ encode (verify e (decode l))
  unfolding verify
  domain_written q w =
      let t = (decode l).trust in
      let told = q ∙ ap (λ y. chain_of t y.signing) read in
      write_is_change executables e.id (λ y. in_domain (chain_of t y.signing).domain y) a at h n
      (ap (λ r. in_domain r.domain (executable_at (decode l) slot)) told) w

  pub permissions_written : (write : ℕ → ℕ → ℕ) {m : ℕ} → m ≡ write x.permissions e.second
      → Written l l' slot (permitted m (executable_at (decode l) slot)) → l' ≡ encode (permit write e (decode l))
  unfolding permit
  permissions_written write q w =
      let g : ℕ → ℕ = λ m. write m e.second in
      let told = q ∙ ap (λ y. g y.permissions) read in
      write_is_change executables e.id (λ y. permitted (g y.permissions) y) a at h n (ap (λ m. permitted m (executable_at (decode l) slot)) told) w
