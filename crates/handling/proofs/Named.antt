-- The record that an event names, by the slot where it is found. Assumes nothing.
use Prim.Native.Nat.{ℕ}
use mathlib.Core.{Bool.{true, false}, Path.{◌≡◌, refl}}
use Rattle.records.specs.{Phone.{Phone, no_certificate, no_executable, certificate_at, executable_at}, declared.Certificate.Certificate}
use Rattle.records.specs.declared.Executable.{Executable}
use Rattle.rules.specs.{Codes.{has_id, is_executable, certificate_named, executable_named, certificate_known, executable_known}, Words.first_place}
use Rattle.laws.proofs.Places.{place_named}
use Rattle.std.specs.Prelude.{Option, Some, None}
use Rattle.sweep.specs.FirstPassing.{found}
use Rattle.lookup.proofs.FoundSlot.{nowhere_none, at_some}

module _ (p : Phone) (id : ℕ) where
  module _ {i : ℕ} where
    pub certificate_here : i ≡ first_place (has_id id) p.trust.certificates → {c : Certificate} → c ≡ certificate_at p i → c ≡ certificate_named p id
    unfolding certificate_named
    certificate_here at q = place_named (has_id id) p.trust.certificates at refl no_certificate q

    pub executable_here : i ≡ first_place (is_executable id) p.executables → {x : Executable} → x ≡ executable_at p i → x ≡ executable_named p id
    unfolding executable_named
    executable_here at q = place_named (is_executable id) p.executables at refl no_executable q

  module _ {r : Option ℕ} where
    module _ (q : r ≡ found (has_id id) p.trust.certificates) where
      pub certificate_missing : r ≡ None → certificate_known p id ≡ false
      unfolding certificate_known
      certificate_missing e = nowhere_none (has_id id) p.trust.certificates q e

      pub certificate_found : {i : ℕ} → r ≡ Some i → certificate_known p id ≡ true
      unfolding certificate_known
      certificate_found e = at_some (has_id id) p.trust.certificates q e

    module _ (q : r ≡ found (is_executable id) p.executables) where
      pub executable_missing : r ≡ None → executable_known p id ≡ false
      unfolding executable_known
      executable_missing e = nowhere_none (is_executable id) p.executables q e

      pub executable_found : {i : ℕ} → r ≡ Some i → executable_known p id ≡ true
      unfolding executable_known
      executable_found e = at_some (is_executable id) p.executables q e
