-- What is known of an accepted image. Assumes nothing.
use Prim.Native.Nat.{ℕ, ◌≤◌}
use mathlib.Core.{Bool.true, List.List, Logic.{◌≢◌, ◌⊎◌, inl, inr}, Path.{◌≡◌, ap}}
use native.Mathlib.Omega.{arith}
use Rattle.records.specs.{Phone.{decode, no_certificate, no_executable}, declared.Certificate.Certificate, Frame.Framed, declared.Executable.Executable}
use Rattle.rules.specs.{ImageRules.accepted, AcceptedImage.AcceptedImage}
use Rattle.laws.proofs.{Accepted.{Occupied, Stored}, Accepts.accepted_out, Slots.at_each}

pub executable_domain : {n : ℕ} (x : Executable) → (x ≡ no_executable) ⊎ Stored n x → x.domain ≤ 3
executable_domain x (inl z) = let e : x.domain ≡ 0 = ap (λ y. y.domain) z in omega arith
executable_domain x (inr o) = o.domain

-- a free slot has key 0 and domain 0
key_domain : (c : Certificate) → (c ≡ no_certificate) ⊎ Occupied c → c.key ≢ 0 → (1 ≤ c.domain) × (c.domain ≤ 3)
key_domain c (inl z) nz = absurd (nz (ap (λ x. x.key) z))
key_domain c (inr o) nz = o.domain

certificate_domain : (c : Certificate) → (c ≡ no_certificate) ⊎ Occupied c → c.domain ≤ 3
certificate_domain c (inl z) = let e : c.domain ≡ 0 = ap (λ x. x.domain) z in omega arith
certificate_domain c (inr o) = o.domain.1

pub accepted_image : (l : List ℕ) → Framed l → accepted l ≡ true → AcceptedImage l
accepted_image l f h =
    let w = accepted_out l h in
    let p = decode l in
    let held = w.1.trust.held in
    record {
      accepted = h;
      framed = f;
      keyed = record { one_domain = held.keys; domains = λ c m. key_domain c (held.slots c m) };
      certificate_domains = at_each (λ c. c.domain ≤ 3) no_certificate p.trust.certificates (omega arith) (λ c m. certificate_domain c (held.slots c m));
      executable_domains = at_each (λ x. x.domain ≤ 3) no_executable p.executables (omega arith) (λ x m. executable_domain x (w.1.executables x m));
    }
