-- What a date means for a root. Assumes nothing.
use Prim.Native.Nat.{ℕ, ◌≤◌}
use mathlib.Core.{Logic.◌↔◌, Path.{◌≡◌, refl}}
use lib.Dec.{T, leb→le, le→leb}
use Rattle.records.specs.{Phone.{Trust, Phone}, declared.Certificate.Certificate, declared.Event.Event}
use Rattle.rules.specs.{Chains.{in_date, valid_root, trusted_root}, Effects.{tick, effect, settle, changed}}
use Rattle.laws.proofs.Tests.{tests}

pub trusted_in_date : (t : Trust) (c : Certificate) → T (trusted_root t.seen c) → t.seen.clock ≤ c.expiry
unfolding trusted_root valid_root in_date
trusted_in_date t c h = leb→le t.seen.clock c.expiry (search tests)

pub valid_means : (clock : ℕ) (c : Certificate) → T (valid_root clock c) ↔ ((c.kind ≡ 0) × (c.mark ≡ 1) × (clock ≤ c.expiry))
unfolding valid_root in_date
valid_means clock c = (out, into)
  where
    out : T (valid_root clock c) → (c.kind ≡ 0) × (c.mark ≡ 1) × (clock ≤ c.expiry)
    out h = (search tests, search tests, leb→le clock c.expiry (search tests))

    into : (c.kind ≡ 0) × (c.mark ≡ 1) × (clock ≤ c.expiry) → T (valid_root clock c)
    into h =
        let k = h.0 in
        let m = h.1 in
        let i = le→leb clock c.expiry h.2 in
        search tests

pub clock_keeps : (p : Phone) (e : Event) → e.kind ≡ 1 → (changed e p).trust.certificates ≡ p.trust.certificates
unfolding changed settle effect tick
clock_keeps p e k = rw k refl
