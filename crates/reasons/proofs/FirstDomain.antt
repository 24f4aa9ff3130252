-- What a key chains to, by the first domain that it has links in. Assumes nothing.
use Prim.Native.Nat.{ℕ, zero, suc, ◌+◌, ◌≤◌, ◌<◌}
use mathlib.Core.{Bool.{Bool, true, false, not}, Logic.◌≢◌, Path.{◌≡◌, refl, sym, ap, ◌∙◌}}
use native.Mathlib.Omega.{arith}
use lib.Dec.{T, T_not, eqb, eqb→eq}
use Rattle.records.specs.Phone.{Trust}
use Rattle.rules.specs.{Words.first, Chains.{chains_to, chain_domain, links, chain_of}}
use Rattle.laws.proofs.{Tests.{neqb→ne, by_test}, Shortest.{chains_signed, chains_chain, chain_chains, links_none}}

-- b where it cannot be false, and where it cannot be true
yes : (b : Bool) → (T (not b) → ⊥) → b ≡ true
yes true h = refl
yes false h = absurd (h tt)

no : (b : Bool) → (T b → ⊥) → b ≡ false
no true h = absurd (h tt)
no false h = refl

module _ (t : Trust) (k : ℕ) where
  told : {d : ℕ} → chain_domain t k ≡ d → record { domain = d; links = links t k d } ≡ chain_of t k
  unfolding chain_of
  told q = ap (λ d. record { domain = d; links = links t k d }) (sym q)

  pub unsigned_chain : k ≡ 0 → record { domain = 0; links = 0 } ≡ chain_of t k
  unfolding chain_domain first links
  unsigned_chain z = told (rw (none 1, none 2, none 3))
    where
      none : (d : ℕ) → chains_to t k d ≡ false
      none d = no (chains_to t k d) (λ h. chains_signed t k d h z)

  -- no domain before d has links
  abbrev pub Passed : ℕ → Type 0
  Passed d = (e : ℕ) → 1 ≤ e → e < d → links t k e ≡ 0

  pub passed_more : (d : ℕ) → Passed d → {n : ℕ} → n ≡ links t k d → n ≡ 0 → Passed (d + 1)
  passed_more d h q z e lo lt =
      by_test (eqb e d) (λ y. ap (links t k) (eqb→eq e d y) ∙ sym q ∙ z) (λ n. h e lo (omega (arith, neqb→ne e d n)))

  module _ (signed : k ≢ 0) where
    none_to : (d : ℕ) → d ≢ 0 → links t k d ≡ 0 → chains_to t k d ≡ false
    none_to d h z = no (chains_to t k d) (λ c. (links_none t k d signed h).0 z (chains_chain t k d c))

    some_to : (d : ℕ) → d ≢ 0 → links t k d ≢ 0 → chains_to t k d ≡ true
    some_to d h z = yes (chains_to t k d) (λ c. z ((links_none t k d signed h).1 (λ w. T_not (chains_to t k d) c (chain_chains t k d signed w))))

    passed_to : (d : ℕ) {n : ℕ} → Passed n → d ≢ 0 → d < n → chains_to t k d ≡ false
    passed_to d h nz lt = none_to d nz (h d (omega arith) lt)

    first_domain : (d : ℕ) → d ≢ 0 → d ≤ 3 → Passed d → links t k d ≢ 0 → chain_domain t k ≡ d
    unfolding chain_domain first
    first_domain zero nz le h z = absurd (nz refl)
    first_domain (suc zero) nz le h z = rw (some_to 1 nz z)
    first_domain (suc (suc zero)) nz le h z = rw (passed_to 1 h (λ e. omega arith) (omega arith), some_to 2 nz z)
    first_domain (suc (suc (suc zero))) nz le h z =
        rw (passed_to 1 h (λ e. omega arith) (omega arith), passed_to 2 h (λ e. omega arith) (omega arith), some_to 3 nz z)
    first_domain (suc (suc (suc (suc d)))) nz le h z = absurd (omega arith)

    pub first_chain : (d : ℕ) → 1 ≤ d → d ≤ 3 → Passed d → {n : ℕ} → n ≡ links t k d → n ≢ 0 → record { domain = d; links = n } ≡ chain_of t k
    first_chain d lo le h q z =
        ap (λ n. record { domain = d; links = n }) q ∙ told (first_domain d (λ e. omega arith) le h (λ e. z (q ∙ e)))

    pub no_chain : (d : ℕ) → 3 < d → Passed d → record { domain = 0; links = 0 } ≡ chain_of t k
    unfolding chain_domain first links
    no_chain d lt h =
        told
        (rw (passed_to 1 h (λ e. omega arith) (omega arith), passed_to 2 h (λ e. omega arith) (omega arith), passed_to 3 h (λ e. omega arith) (omega arith)))
