-- The four cases of an explanation: one applies and no other, and what is told in each. Assumes nothing.
use Prim.Native.Nat.{ℕ, ◌≤◌}
use mathlib.Core.{Bool.{Bool, true, false, not, ◌&&◌}, List.{List, [], ◌∷◌}, Logic.{◌⊎◌, inl, inr, ◌≢◌}, Path.{◌≡◌, refl, sym, ◌∙◌}}
use lib.Dec.{T, T_not, eqb}
use Rattle.records.specs.{Phone.Trust, declared.Executable.Executable, declared.Certificate.Certificate, declared.Card.Card}
use Rattle.rules.specs.{Words.any, Chains.{chains_to, chain_domain, most_links}, Explicit.{Chain, ends, goes_on, ChainWithin}}
use Rattle.laws.proofs.{Tests.{eq→eqb, neqb→ne, ne→neqb, not_elim}, Lists.any_in, Shortest.{chains_signed, chains_chain, chain_chains}}
use Rattle.laws.proofs.{Domain.{chain_found, chain_domain_is}, Accepted.Held}
use native.Mathlib.Omega.{arith}
use Rattle.explanations.proofs.{Reasons.occupied, LowestId.cond_cases}
use Rattle.explanations.specs.Why.{Line, has_key, its_domain, unsigned_line, unheld_line, chained, unsigned, held, chain_lines, reason_lines, explained}
use Rattle.explanations.specs.Claims.{count, cases}

-- a chain's first record has its key
chain_held : (t : Trust) {d k : ℕ} {l : List Certificate} → Chain t d k l → T (any (has_key k) t.certificates)
chain_held t (ends {k} r) = any_in (has_key k) r.mem (eq→eqb r.certificate.key k r.key)
chain_held t (goes_on {k} s c) = any_in (has_key k) s.mem (eq→eqb s.certificate.key k s.key)

exactly_one : (a b c : Bool) → (T a → T (not b)) → (T a → T c) → count (λ b. b) (a ∷ b ∷ (not b && not c) ∷ (not b && c && not a) ∷ []) ≡ 1
exactly_one true true c f g = absurd (f tt)
exactly_one true false true f g = refl
exactly_one true false false f g = absurd (g tt)
exactly_one false true true f g = refl
exactly_one false true false f g = refl
exactly_one false false true f g = refl
exactly_one false false false f g = refl

-- a key that has a domain chains to it
found_chains : (t : Trust) (k : ℕ) → T (not (eqb (chain_domain t k) 0)) → T (chains_to t k (chain_domain t k))
found_chains t k c = go (chain_found t k)
  where
    go : (chain_domain t k ≡ 0) ⊎ T (chains_to t k (chain_domain t k)) → T (chains_to t k (chain_domain t k))
    go (inl z) = absurd (neqb→ne (chain_domain t k) 0 c z)
    go (inr h) = h

module _ (t : Trust) (x : Executable) where
  -- ---- one case, and no other

  pub chained_chains : T (chained t x) → T (chains_to t x.signing (its_domain t x))
  unfolding chained
  chained_chains c = found_chains t x.signing c

  chained_signed : T (chained t x) → T (not (unsigned x))
  unfolding unsigned
  chained_signed c = ne→neqb x.signing 0 (chains_signed t x.signing (its_domain t x) (chained_chains c))

  chained_held : T (chained t x) → T (held t x)
  unfolding held
  chained_held c = chain_held t (chains_chain t x.signing (its_domain t x) (chained_chains c)).is_chain

  pub one_case : count (λ b. b) (cases t x) ≡ 1
  one_case = exactly_one (chained t x) (unsigned x) (held t x) chained_signed chained_held

  -- ---- what is told in each

  pub explained_cases : (P : List Line → Type 0)
      → (T (chained t x) → P (chain_lines t x))
      → (T (unsigned x) → P (unsigned_line x ∷ []))
      → (T (not (unsigned x)) → T (not (held t x)) → P (unheld_line x ∷ []))
      → (T (not (unsigned x)) → T (held t x) → T (not (chained t x)) → P (reason_lines t x))
      → P (explained t x)
  unfolding explained
  explained_cases P f g h i =
      cond_cases P (chained t x) _ _ f
      (λ c. cond_cases P (unsigned x) _ _ g (λ u. cond_cases P (not (held t x)) _ _ (h u) (λ n. i u (not_elim (held t x) n) c)))

  pub explained_chain : T (chained t x) → explained t x ≡ chain_lines t x
  explained_chain c =
      explained_cases (λ l. l ≡ chain_lines t x) (λ h. refl) (λ u. absurd (T_not (unsigned x) (chained_signed c) u))
      (λ s n. absurd (T_not (held t x) n (chained_held c))) (λ s y n. absurd (T_not (chained t x) n c))

  pub explained_unsigned : T (unsigned x) → explained t x ≡ unsigned_line x ∷ []
  explained_unsigned u =
      explained_cases (λ l. l ≡ unsigned_line x ∷ []) (λ c. absurd (T_not (unsigned x) (chained_signed c) u)) (λ h. refl)
      (λ s n. absurd (T_not (unsigned x) s u)) (λ s y n. absurd (T_not (unsigned x) s u))

  pub explained_unheld : T (not (unsigned x)) → T (not (held t x)) → explained t x ≡ unheld_line x ∷ []
  explained_unheld s n =
      explained_cases (λ l. l ≡ unheld_line x ∷ []) (λ c. absurd (T_not (held t x) n (chained_held c))) (λ u. absurd (T_not (unsigned x) s u))
      (λ a b. refl) (λ a y b. absurd (T_not (held t x) n y))

  pub explained_reasons : T (not (unsigned x)) → T (held t x) → T (not (chained t x)) → explained t x ≡ reason_lines t x
  explained_reasons s y n =
      explained_cases (λ l. l ≡ reason_lines t x) (λ c. absurd (T_not (chained t x) n c)) (λ u. absurd (T_not (unsigned x) s u))
      (λ a b. absurd (T_not (held t x) b y)) (λ a b c. refl)

-- ---- "if that chains to a domain", in terms of chains

module _ (cards : List Card) (t : Trust) (h : Held cards t.certificates) where
  chain_small : {d k : ℕ} {l : List Certificate} → d ≢ 0 → Chain t d k l → d ≤ 3
  chain_small nz (ends r) =
      omega (arith, r.domain, (occupied cards t h (λ c. c.domain) refl r.certificate r.mem (λ z. nz (sym r.domain ∙ z))).domain.1)
  chain_small nz (goes_on s c) =
      omega (arith, s.domain, (occupied cards t h (λ c. c.domain) refl s.certificate s.mem (λ z. nz (sym s.domain ∙ z))).domain.1)

  pub chained_out : (x : Executable) → T (chained t x) → (d : ℕ) × (d ≢ 0) × (x.signing ≢ 0) × ChainWithin most_links t d x.signing
  unfolding chained
  chained_out x c =
      let d = its_domain t x in
      let g = chained_chains t x c in
      (d, neqb→ne d 0 c, chains_signed t x.signing d g, chains_chain t x.signing d g)

  pub chained_in : (x : Executable) (d : ℕ) → d ≢ 0 → x.signing ≢ 0 → ChainWithin most_links t d x.signing → T (chained t x)
  unfolding chained
  chained_in x d nz s w =
      let e = chain_domain_is t h.keys x.signing d nz (chain_small nz w.is_chain) (chain_chains t x.signing d s w) in
      ne→neqb (its_domain t x) 0 (λ z. nz (sym e ∙ z))
