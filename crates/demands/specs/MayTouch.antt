-- What each kind of event may touch, said once for each: everything else is kept. Definitions only.
use Rattle.std.specs.Prelude.{ℕ}
use mathlib.Core.{Bool.{not, ◌&&◌, ◌||◌}, Logic.{◌≢◌, ◌⊎◌}, Path.◌≡◌}
use lib.{Dec.{T, eqb}, ListN.length}
use Rattle.bits.specs.Bits.{set_bit, clear_bit}
use Rattle.records.specs.Phone.{Trust, Phone, no_certificate, no_executable, certificate_at, executable_at, marked, enabling, in_domain, permitted}
use Rattle.records.specs.{declared.Certificate.Certificate, declared.Executable.Executable, declared.Event.Event}
use Rattle.rules.specs.{Words.between, Chains.chain_of, ImageRules.third_party_root, Forms.new_certificate, Codes.certificate_named}
use Rattle.rules.specs.Effects.{phone_operator_root, on_a_card, enabled_by, new_executable, replaced}

-- a certificate slot before (c) and after (d) an event on this phone: kept, or changed as the kind changes it
pub data CertificateKept (p : Phone) (e : Event) (c d : Certificate) : Type 0 where
  same : d ≡ c → CertificateKept p e c d
  -- 2, 4, and 7 of a root on a card: an operator root on the phone is marked invalid
  swept : T (eqb e.kind 2 || eqb e.kind 4 || (eqb e.kind 7 && on_a_card (certificate_named p e.id))) → T (phone_operator_root c)
      → d ≡ marked 0 c → CertificateKept p e c d
  -- 7, 8: the one named is marked
  marked_valid : e.kind ≡ 7 → c.id ≡ e.id → d ≡ marked 1 c → CertificateKept p e c d
  marked_invalid : e.kind ≡ 8 → c.id ≡ e.id → d ≡ marked 0 c → CertificateKept p e c d
  -- 9: a third party root is enabled or disabled, as the message says
  enabled : e.kind ≡ 9 → T (third_party_root c) → d ≡ enabling (enabled_by e c) c → CertificateKept p e c d
  -- 5: a free slot is filled
  filled : e.kind ≡ 5 → c.id ≡ 0 → d ≡ new_certificate p.mode e → CertificateKept p e c d
  -- 6: the one named is deleted
  deleted : e.kind ≡ 6 → c.id ≡ e.id → d ≡ no_certificate → CertificateKept p e c d
  -- 16: the one named has the new key, owner and expiry, and is marked valid
  renewed : e.kind ≡ 16 → c.id ≡ e.id → d ≡ replaced e c → CertificateKept p e c d

-- the settling leaves an executable as it is or takes its domain
abbrev pub UpToSettling : Executable → Executable → Type 0
UpToSettling x y = (y ≡ x) ⊎ (y ≡ in_domain 0 x)

-- an executable slot before (x) and after (y) an event on a phone with this trust
pub data ExecutableKept (t : Trust) (e : Event) (x y : Executable) : Type 0 where
  same : UpToSettling x y → ExecutableKept t e x y
  -- 12: the one named gets the domain that it chains to
  verified : e.kind ≡ 12 → x.id ≡ e.id → y ≡ in_domain (chain_of t x.signing).domain x → ExecutableKept t e x y
  -- 13, 14: the one named gets, or loses, the permission for the action
  given : e.kind ≡ 13 → x.id ≡ e.id → UpToSettling (permitted (set_bit x.permissions e.second) x) y → ExecutableKept t e x y
  withdrawn : e.kind ≡ 14 → x.id ≡ e.id → UpToSettling (permitted (clear_bit x.permissions e.second) x) y → ExecutableKept t e x y
  -- 10: a free slot is filled
  filled : e.kind ≡ 10 → x.id ≡ 0 → y ≡ new_executable e → ExecutableKept t e x y
  -- 11: the one named is deleted
  deleted : e.kind ≡ 11 → x.id ≡ e.id → y ≡ no_executable → ExecutableKept t e x y

-- the phone before (p) and after (q) an event
pub record FramedChange (e : Event) (p q : Phone) : Type 0 where
  pub cards : q.cards ≡ p.cards
  pub table : q.table ≡ p.table
  pub clock : e.kind ≢ 1 → q.trust.seen.clock ≡ p.trust.seen.clock
  pub card : T (not (between 2 4 e.kind)) → q.trust.seen.card ≡ p.trust.seen.card
  pub mode : e.kind ≢ 9 → q.mode ≡ p.mode
  pub certificate_slots : length q.trust.certificates ≡ length p.trust.certificates
  pub certificates : (i : ℕ) → CertificateKept p e (certificate_at p i) (certificate_at q i)
  pub executable_slots : length q.executables ≡ length p.executables
  pub executables : (i : ℕ) → ExecutableKept p.trust e (executable_at p i) (executable_at q i)
