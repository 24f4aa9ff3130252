-- Kinds 10 to 15 touch no chain: after their effect there is nothing to settle. Assumes nothing.
use Prim.Native.Nat.{ℕ}
use mathlib.Core.List.Memᴰ
use mathlib.Core.{Bool.{Bool, true, false}, List.{Memᴰ}, Logic.{◌≢◌, ◌⊎◌, inl, inr}, Path.{◌≡◌, refl, sym, subst, ◌∙◌}}
use lib.Dec.{T}
use Rattle.bits.specs.Bits.{set_bit, clear_bit}
use Rattle.records.specs.{Phone.{Phone, no_executable, permitted}, declared.Executable.Executable, declared.Event.Event}
use Rattle.rules.specs.{Words.{at, fill, change}, Chains.chains_to, Forms.with_kind, Codes.is_executable}
use Rattle.rules.specs.Effects.{effect, settle, changed, install_executable, delete_executable, permit}
use Rattle.executables.specs.Acting.{permission_kind}
use Rattle.laws.proofs.{Accepted.Accepted, Lists.fill_out, Changes.at_cases}
use Rattle.keeping.proofs.{Settle.{settle_still, request_changed}, Verified.{verify_effect, verify_changed}}

module _ (p : Phone) (ok : Accepted p) where
  -- it chains to the domain that it has, if it has one
  Chained : Executable → Type 0
  Chained x = x.domain ≢ 0 → T (chains_to p.trust x.signing x.domain)

  filled_chained : (t : Executable → Bool) (y : Executable) → Chained y → (x : Executable) → Memᴰ x (fill t y p.executables) → Chained x
  unfolding Chained
  filled_chained t y h x m = go (fill_out t y p.executables x m)
    where
      go : (x ≡ y) ⊎ Memᴰ x p.executables → Chained x
      go (inl e) = subst Chained (sym e) h
      go (inr n) = ok.chained x n

  changed_chained : (t : Executable → Bool) (f : Executable → Executable) → ((x : Executable) → Chained x → Chained (f x))
      → (x : Executable) → Memᴰ x (change t f p.executables) → Chained x
  unfolding Chained
  changed_chained t f h x m =
      let o = Memᴰ.of_map (at t f) p.executables m in
      let c : Chained o.0 = ok.chained o.0 o.1 in
      subst Chained o.2 (at_cases (λ y z. Chained y) t f o.0 (λ b. h o.0 c) (λ b. c))

  module _ (e : Event) where
    pub install_still : changed (with_kind 10 e) p ≡ effect (with_kind 10 e) p
    unfolding Chained changed effect install_executable
    install_still = settle_still (install_executable e p) (filled_chained _ _ (λ z. absurd (z refl)))

    pub delete_still : changed (with_kind 11 e) p ≡ effect (with_kind 11 e) p
    unfolding Chained changed effect delete_executable
    delete_still = settle_still (delete_executable e p) (changed_chained (is_executable e.id) (λ x. no_executable) (λ x c z. absurd (z refl)))

    pub verify_still : changed (with_kind 12 e) p ≡ effect (with_kind 12 e) p
    verify_still = verify_changed p (with_kind 12 e) ok refl ∙ sym (verify_effect p (with_kind 12 e) refl)

    still_permitted : (write : ℕ → ℕ → ℕ) → settle (permit write e p) ≡ permit write e p
    unfolding Chained permit
    still_permitted write =
        settle_still (permit write e p) (changed_chained (is_executable e.id) (λ x. permitted (write x.permissions e.second) x) (λ x c. c))

    pub permit_still : (given : Bool) → let k = permission_kind given in changed (with_kind k e) p ≡ effect (with_kind k e) p
    unfolding changed effect permit
    permit_still true = still_permitted set_bit
    permit_still false = still_permitted clear_bit

    pub request_unchanged : changed (with_kind 15 e) p ≡ p
    request_unchanged = request_changed p ok (with_kind 15 e) refl
