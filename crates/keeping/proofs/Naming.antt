-- The record that an id names: it is stored under that id, and no other is. Assumes nothing.
use Prim.Native.Nat.{ℕ, ◌≤◌}
use mathlib.Core.{List.{List, Memᴰ}, Logic.{◌≢◌, ◌⊎◌, inl, inr}, Path.{◌≡◌, sym, ap, ◌∙◌}}
use native.Mathlib.Omega.{arith}
use lib.{Dec.{T, eqb→eq}, ListN.length}
use Rattle.records.specs.{Phone.{Phone, no_certificate, no_executable}, declared.Certificate.Certificate, declared.Executable.Executable}
use Rattle.rules.specs.Codes.{has_id, certificate_named, certificate_known, is_executable, executable_named, executable_known}
use Rattle.laws.proofs.{Tests.eq→eqb, Lists.{any_in, find_in}, Distinct.alone, Accepted.{Held, Accepted, Stored}}

-- ---- a certificate

pub record Found (l : List Certificate) (n : ℕ) (c : Certificate) : Type 0 where
  pub mem : Memᴰ c l
  pub id : c.id ≡ n

pub certificate_named_is : (p : Phone) (n : ℕ) → T (certificate_known p n) → Found p.trust.certificates n (certificate_named p n)
unfolding certificate_known certificate_named
certificate_named_is p n h =
    let f = find_in (has_id n) no_certificate p.trust.certificates h in
    record { mem = f.0; id = eqb→eq (certificate_named p n).id n f.1 }

-- and it names no other
pub certificate_named_alone : (p : Phone) (n : ℕ) (c : Certificate) → Held p.cards p.trust.certificates → n ≢ 0
    → Found p.trust.certificates n c → certificate_named p n ≡ c
unfolding certificate_known
certificate_named_alone p n c h nz w =
    let g = certificate_named_is p n (any_in (has_id n) w.mem (eq→eqb c.id n w.id)) in
    alone (λ c. c.id) p.trust.certificates h.ids (certificate_named p n) c g.mem w.mem (λ z. nz (sym g.id ∙ z)) (g.id ∙ sym w.id)

-- ---- an executable

pub known_executable : (p : Phone) (n : ℕ) → T (executable_known p n) → Memᴰ (executable_named p n) p.executables × ((executable_named p n).id ≡ n)
unfolding executable_named executable_known
known_executable p n k =
    let f = find_in (is_executable n) no_executable p.executables k in
    (f.0, eqb→eq (executable_named p n).id n f.1)

module _ (p : Phone) (ok : Accepted p) where
  -- and it names no other
  pub the_executable : (x : Executable) (n : ℕ) → Memᴰ x p.executables → x.id ≡ n → n ≢ 0 → T (executable_known p n) × (executable_named p n ≡ x)
  unfolding executable_known
  the_executable x n m i nz =
      let k : T (executable_known p n) = any_in (is_executable n) m (eq→eqb x.id n i) in
      let f = known_executable p n k in
      (k, alone (λ x. x.id) p.executables ok.ids (executable_named p n) x f.0 m (λ z. nz (sym f.1 ∙ z)) (f.1 ∙ sym i))

  -- and has one of the four domains
  pub small_domain : (x : Executable) → Memᴰ x p.executables → x.domain ≤ 3
  small_domain x m = go (ok.executables x m)
    where
      go : (x ≡ no_executable) ⊎ Stored (length p.table) x → x.domain ≤ 3
      go (inl z) = omega (arith, ap (λ x. x.domain) z)
      go (inr s) = s.domain
