-- The chains by keys: what is good within n links, said of a domain and a key. Assumes nothing.
use Prim.Native.Nat.{ℕ, zero, suc}
use mathlib.Core.{Bool.{Bool, ◌&&◌}, List.Memᴰ, Logic.{◌≢◌, ◌⊎◌, inl, inr}, Path.{◌≡◌, refl}}
use lib.Dec.{T}
use Rattle.records.specs.{Phone.Trust, declared.Certificate.Certificate}
use Rattle.rules.specs.{Words.any, Explicit.{Root, Issued}, Chains.{trusted_root, link, serves, good, within}}
use Rattle.laws.proofs.{Tests.{tests, or_cases}, Lists.{any_out, any_in}}

-- the key k of domain d is that of a good record within n
abbrev pub served : ℕ → Trust → ℕ → ℕ → Bool
served n t d k = any (serves (good n t) d k) t.certificates

-- keys from a trusted root on, each verified by the one before
pub data Key (t : Trust) : ℕ → ℕ → ℕ → Type 0 where
  by_root : {n d k : ℕ} → Root t d k → Key t (suc n) d k
  by_issued : {n d k : ℕ} (v : ℕ) → Issued t d k v → Key t n d v → Key t (suc n) d k

-- ---- a key so reached is served

root_serves : (t : Trust) (n d k : ℕ) (r : Root t d k) → T (serves (good (suc n) t) d k r.certificate)
unfolding serves good
root_serves t n d k r = search tests

issued_serves : (t : Trust) (n d k v : ℕ) (s : Issued t d k v) → T (served n t d v) → T (serves (good (suc n) t) d k s.certificate)
unfolding serves good
issued_serves t n d k v s h =
    let g : T (served n t s.certificate.domain s.certificate.verifying) = rw (s.domain, s.verifying) h in
    search tests

key_served : (t : Trust) {n d k : ℕ} → Key t n d k → T (served n t d k)
key_served t (by_root {n} {d} {k} r) = any_in (serves (good (suc n) t) d k) r.mem (root_serves t n d k r)
key_served t (by_issued {n} {d} {k} v s r) =
    any_in (serves (good (suc n) t) d k) s.mem (issued_serves t n d k v s (key_served t r))

-- ---- a key that is served is so reached

none_within_zero : (t : Trust) (d k : ℕ) → T (served zero t d k) → ⊥
unfolding serves good
none_within_zero t d k h =
    let s = any_out (serves (good zero t) d k) t.certificates h in
    let g : T (serves (good zero t) d k s.it) = s.passes in
    search tests

record_key : (t : Trust) (n d k : ℕ) → ((v : ℕ) → T (served n t d v) → Key t n d v) → (c : Certificate) → Memᴰ c t.certificates
    → T (serves (good (suc n) t) d k c) → Key t (suc n) d k
unfolding serves good
record_key t n d k below c m h = go (or_cases (trusted_root t.seen c) (link t.seen c && served n t c.domain c.verifying) (search tests))
  where
    domain : c.domain ≡ d
    domain = search tests

    key : c.key ≡ k
    key = search tests

    verifier : T (link t.seen c && served n t c.domain c.verifying) → T (served n t c.domain c.verifying)
    verifier s = search tests

    go : T (trusted_root t.seen c) ⊎ T (link t.seen c && served n t c.domain c.verifying) → Key t (suc n) d k
    go (inl r) = by_root (record { certificate = c; mem = m; good = r; domain = domain; key = key })
    go (inr s) =
        by_issued c.verifying
        (record { certificate = c; mem = m; good = search tests; domain = domain; key = key; verifying = refl })
        (below c.verifying (rw domain at (verifier s)))

served_key : (n : ℕ) (t : Trust) (d k : ℕ) → T (served n t d k) → Key t n d k
served_key zero t d k h = absurd (none_within_zero t d k h)
served_key (suc n) t d k h =
    let s = any_out (serves (good (suc n) t) d k) t.certificates h in
    record_key t n d k (served_key n t d) s.it s.mem s.passes

-- ---- the same of signing keys, which are not 0

pub within_key : (t : Trust) (n k d : ℕ) → T (within n t k d) → Key t n d k
unfolding within
within_key t n k d h = served_key n t d k (search tests)

pub within_signed : (t : Trust) (n k d : ℕ) → T (within n t k d) → k ≢ 0
unfolding within
within_signed t n k d h = search tests

pub key_within : (t : Trust) (n k d : ℕ) → k ≢ 0 → Key t n d k → T (within n t k d)
unfolding within
key_within t n k d signed h = let s = key_served t h in search tests
