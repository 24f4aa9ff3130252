-- The domain that a key chains to: I4 makes it one, and `chain_domain` finds it. Assumes nothing.
use Prim.Native.Nat.{ℕ, ◌≤◌}
use mathlib.Core.{Bool.{Bool, true, false, cond, not}, List.Memᴰ, Logic.{◌≢◌, ◌⊎◌, inl, inr}, Path.{◌≡◌, refl, subst, sym, ◌∙◌}}
use native.Mathlib.Omega.{arith}
use lib.Dec.{T, T_not}
use Rattle.records.specs.{Phone.Trust, declared.Certificate.Certificate}
use Rattle.rules.specs.{Words.first, Chains.{chains_to, chain_domain}}
use Rattle.laws.proofs.{Keys.{Key, by_root, by_issued}, Shortest.{chains_key, chains_signed}}

-- I4's rule on keys
abbrev pub KeysApart : Trust → Type 0
KeysApart t =
    (c e : Certificate) → Memᴰ c t.certificates → Memᴰ e t.certificates → c.key ≢ 0 → c.key ≡ e.key → c.domain ≡ e.domain

-- a record with a key that is good
record Holder (t : Trust) (d k : ℕ) : Type 0 where
  certificate : Certificate
  mem : Memᴰ certificate t.certificates
  domain : certificate.domain ≡ d
  key : certificate.key ≡ k

key_holder : (t : Trust) {n d k : ℕ} → Key t n d k → Holder t d k
key_holder t (by_root r) = record { certificate = r.certificate; mem = r.mem; domain = r.domain; key = r.key }
key_holder t (by_issued v s r) = record { certificate = s.certificate; mem = s.mem; domain = s.domain; key = s.key }

pub one_domain : (t : Trust) → KeysApart t → (k d f : ℕ) → T (chains_to t k d) → T (chains_to t k f) → d ≡ f
one_domain t apart k d f g h =
    let signed = chains_signed t k d g in
    let a = key_holder t (chains_key t k d g) in
    let b = key_holder t (chains_key t k f h) in
    let e : a.certificate.domain ≡ b.certificate.domain =
    apart a.certificate b.certificate a.mem b.mem (λ z. signed (sym a.key ∙ z)) (a.key ∙ sym b.key) in
    sym a.domain ∙ e ∙ b.domain

-- the first of the three domains that a key chains to
abbrev which : Bool → Bool → Bool → ℕ
which a b c = cond a 1 (cond b 2 (cond c 3 0))

which_cases : (P : ℕ → Type 0) (a b c : Bool) → (T a → P 1) → (T b → P 2) → (T c → P 3) → (T (not a) → T (not b) → T (not c) → P 0) → P (which a b c)
which_cases P true b c f g h n = f tt
which_cases P false true c f g h n = g tt
which_cases P false false true f g h n = h tt
which_cases P false false false f g h n = n tt tt tt

domain_cases : (P : ℕ → Type 0) (t : Trust) (k : ℕ) → (T (chains_to t k 1) → P 1) → (T (chains_to t k 2) → P 2) → (T (chains_to t k 3) → P 3)
    → (T (not (chains_to t k 1)) → T (not (chains_to t k 2)) → T (not (chains_to t k 3)) → P 0) → P (chain_domain t k)
unfolding chain_domain first
domain_cases P t k = which_cases P (chains_to t k 1) (chains_to t k 2) (chains_to t k 3)

pub chain_domain_is : (t : Trust) → KeysApart t → (k d : ℕ) → d ≢ 0 → d ≤ 3 → T (chains_to t k d) → chain_domain t k ≡ d
chain_domain_is t apart k d lo hi h = domain_cases (λ f. f ≡ d) t k (same 1) (same 2) (same 3) (λ a b c. absurd (omega (arith, isnt 1 a, isnt 2 b, isnt 3 c)))
  where
    isnt : (f : ℕ) → T (not (chains_to t k f)) → d ≢ f
    isnt f n e = T_not (chains_to t k f) n (subst (λ f. T (chains_to t k f)) e h)

    same : (f : ℕ) → T (chains_to t k f) → f ≡ d
    same f g = one_domain t apart k f d g h

pub chain_found : (t : Trust) (k : ℕ) → (chain_domain t k ≡ 0) ⊎ T (chains_to t k (chain_domain t k))
chain_found t k = domain_cases (λ f. (f ≡ 0) ⊎ T (chains_to t k f)) t k inr inr inr (λ a b c. inl refl)

pub chain_small : (t : Trust) (k : ℕ) → chain_domain t k ≤ 3
chain_small t k = domain_cases (λ f. f ≤ 3) t k (λ h. omega arith) (λ h. omega arith) (λ h. omega arith) (λ a b c. omega arith)
