-- The reasons: the first that holds, and where a key does not chain one holds of each record with that key. Assumes nothing.
use Prim.Native.Nat.{ℕ}
use mathlib.Core.{Bool.{true, false}, List.{List, [], ◌∷◌, Memᴰ}, Logic.{◌≢◌, ◌⊎◌, inl, inr}, Path.{◌≡◌, refl, ap, ◌∙◌}}
use native.Mathlib.Omega.{arith}
use lib.Dec.{T, eqb}
use Rattle.records.specs.{Phone.{Trust, no_certificate}, declared.Card.Card, declared.Certificate.Certificate}
use Rattle.rules.specs.Words.{any, Check, ◌⇒◌, first}
use Rattle.rules.specs.Chains.{present, in_date, valid_root, trusted_root, link, serves, good, within, chains_to, chain_domain, most_links}
use Rattle.laws.proofs.{Tests.{tests, eq→eqb, neqb→ne, by_test, not_elim, first_out}, Lists.any_in, Accepted.{Occupied, Held}, Domain.chain_domain_is}
use Rattle.explanations.specs.{Why.{said_recovery, signed, reasons, reason}, Claims.{First, here, later}}

pub first_is : (l : List Check) → first l ≢ 0 → First (first l) l
unfolding first
first_is [] h = absurd (h refl)
first_is ((true ⇒ n) ∷ l) h = here tt
first_is ((false ⇒ n) ∷ l) h = later tt (first_is l h)

-- "a reason before the others"
pub recovery_first : (t : Trust) (c : Certificate) → c.kind ≡ 2 → reason t c ≡ said_recovery
unfolding reason first
recovery_first t c r = rw r

-- a record of which no reason holds is good
no_reason : (t : Trust) (c : Certificate) → Occupied c → reason t c ≡ 0 → T (good most_links t c)
unfolding reason good link trusted_root valid_root
no_reason t c o z =
    let w = first_out (reasons t c) tt (eq→eqb (reason t c) 0 z) in
    let others = w.1 in
    let here : T (present t.seen c) = not_elim (present t.seen c) others.0 in
    let marked : c.mark ≡ 1 = omega (arith, neqb→ne c.mark 0 others.1.0, o.mark) in
    let on : c.enabled ≡ 1 = omega (arith, neqb→ne c.enabled 0 others.1.1.0, o.enabled) in
    let dated : T (in_date t.seen.clock c) = not_elim (in_date t.seen.clock c) others.1.1.1.0 in
    let verified : T (signed t c) = not_elim (signed t c) others.1.1.1.1.0 in
    by_test (eqb c.kind 0) (λ root. search tests depth 8)
    (λ nr. let issued : c.kind ≡ 1 = omega (arith, neqb→ne c.kind 0 nr, neqb→ne c.kind 2 w.0, o.kind) in search tests)

module _ (cards : List Card) (t : Trust) (h : Held cards t.certificates) where
  -- a slot of which something is not 0 is occupied
  pub occupied : (f : Certificate → ℕ) → f no_certificate ≡ 0 → (c : Certificate) → Memᴰ c t.certificates → f c ≢ 0 → Occupied c
  occupied f z c m nz = go (h.slots c m)
    where
      go : (c ≡ no_certificate) ⊎ Occupied c → Occupied c
      go (inl e) = absurd (nz (ap f e ∙ z))
      go (inr o) = o

  good_chains : (c : Certificate) → Memᴰ c t.certificates → T (good most_links t c) → c.key ≢ 0 → T (chains_to t c.key c.domain)
  unfolding chains_to within serves
  good_chains c m g nz =
      let f = serves (good most_links t) c.domain c.key in
      let s : T (any f t.certificates) = any_in f m (search tests) in
      search tests

  pub reason_some : (c : Certificate) → Memᴰ c t.certificates → c.key ≢ 0 → chain_domain t c.key ≡ 0 → reason t c ≢ 0
  reason_some c m nz none z =
      let o = occupied (λ c. c.key) refl c m nz in
      let eqb→eq = chain_domain_is t h.keys c.key c.domain (omega (arith, o.domain.0)) o.domain.1 (good_chains c m (no_reason t c o z) nz) in
      omega (arith, o.domain.0)
