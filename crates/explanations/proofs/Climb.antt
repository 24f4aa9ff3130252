-- What `climb` lists: a chain of n records, where n is the least that serves, with the lowest id at each place. Assumes nothing.
use Prim.Native.Nat.{ℕ, zero, suc, ◌≤◌, ◌<◌}
use mathlib.Core.{Bool.{Bool, ◌&&◌}, List.{List, ◌∷◌, Memᴰ}, Logic.{◌≢◌, ◌⊎◌, inl, inr}, Path.{◌≡◌, refl, sym, ap, subst, ◌∙◌}}
use native.Mathlib.Omega.{arith}
use lib.{Dec.{T, eqb, leb, leb→le, nleb→lt, eqb→eq}, ListN.length}
use Rattle.records.specs.{Phone.Trust, declared.Card.Card, declared.Certificate.Certificate}
use Rattle.rules.specs.{Words.least, Chains.{trusted_root, link, serves, good, within, chains_to, links, most_links}, Explicit.{Chain, ends, goes_on, Shortest}}
use Rattle.laws.proofs.{Tests.{tests, or_cases, by_test}, Lists.{any_in, any_out}, Least.{least_small, least_passes, least_least}, Keys.served, Accepted.Held}
use Rattle.laws.proofs.Shortest.{chains_signed, chains_chain, links_small, links_shortest, links_none}
use Rattle.explanations.specs.{Why.{lowest, climb, chain_told}, Claims.LowestEach}
use Rattle.explanations.proofs.{LowestId.{cond_cases, lowest_found, lowest_least}, Reasons.occupied}

pub length_climb : (n : ℕ) (t : Trust) (d k : ℕ) → length (climb n t d k) ≡ n
unfolding climb
length_climb zero t d k = refl
length_climb (suc n) t d k = ap suc (length_climb n t d (lowest (serves (good (suc n) t) d k) 0 t.certificates).verifying)

module _ (cards : List Card) (t : Trust) (h : Held cards t.certificates) (d : ℕ) (trusted : d ≢ 0) where
  -- a record of a domain has an id
  numbered : (c : Certificate) → Memᴰ c t.certificates → c.domain ≡ d → 0 < c.id
  numbered c m e = omega (arith, (occupied cards t h (λ c. c.domain) refl c m (λ z. trusted (sym e ∙ z))).id)

  -- the one that is chosen for the key k with n links above it
  abbrev pub choice : ℕ → ℕ → Certificate
  choice n k = lowest (serves (good (suc n) t) d k) 0 t.certificates

  -- a record that may stand there
  pub record Serving (n k : ℕ) (c : Certificate) : Type 0 where
    pub mem : Memᴰ c t.certificates
    pub domain : c.domain ≡ d
    pub key : c.key ≡ k
    pub good : T (good (suc n) t c)

  serving_out : (n k : ℕ) (c : Certificate) → Memᴰ c t.certificates → T (serves (good (suc n) t) d k c) → Serving n k c
  unfolding serves
  serving_out n k c m s = record { mem = m; domain = search tests; key = search tests; good = search tests }

  serving_in : (n k : ℕ) (c : Certificate) → Serving n k c → T (serves (good (suc n) t) d k c)
  unfolding serves
  serving_in n k c s = search tests

  pub served_by : (n k : ℕ) (c : Certificate) → Serving n k c → T (served (suc n) t d k)
  served_by n k c s = any_in (serves (good (suc n) t) d k) s.mem (serving_in n k c s)

  -- ---- the lowest id at each place

  pub choice_least : (n k : ℕ) (c : Certificate) → Serving n k c → ((choice n k).id ≢ 0) × ((choice n k).id ≤ c.id)
  choice_least n k c s = lowest_least (serves (good (suc n) t) d k) 0 s.mem (serving_in n k c s) (numbered c s.mem s.domain)

  climb_lowest : (n k : ℕ) → LowestEach t d k (climb n t d k)
  unfolding climb
  climb_lowest zero k = tt
  climb_lowest (suc n) k =
      let v = (choice n k).verifying in
      (λ e m i j g. (choice_least n k e (record { mem = m; domain = i; key = j; good = rw (length_climb n t d v) at g })).1, climb_lowest n v)

  -- ---- a chain

  pub choice_serves : (n k : ℕ) → T (served (suc n) t d k) → Serving n k (choice n k)
  choice_serves n k s =
      let e = any_out (serves (good (suc n) t) d k) t.certificates s in
      let low = choice_least n k e.it (serving_out n k e.it e.mem e.passes) in
      let f = lowest_found (serves (good (suc n) t) d k) 0 t.certificates low.0 in
      serving_out n k (choice n k) f.mem f.passes

  -- n is the least number of links within which the key k is served
  record ServedLeast (n k : ℕ) : Type 0 where
    serves : T (served n t d k)
    no_fewer : (m : ℕ) → 1 ≤ m → T (served m t d k) → n ≤ m

  none_served : (k : ℕ) → T (served zero t d k) → ⊥
  unfolding serves good
  none_served k s =
      let e = any_out (serves (good zero t) d k) t.certificates s in
      let g : T (serves (good zero t) d k e.it) = e.passes in
      search tests

  -- a root stands alone, for it would serve within 1; an issued record stands on a chain that is as short as its own
  stands : (n k : ℕ) (c : Certificate) → Serving n k c → ServedLeast (suc n) k
      → (ServedLeast n c.verifying → Chain t d c.verifying (climb n t d c.verifying)) → Chain t d k (c ∷ climb n t d c.verifying)
  unfolding good climb
  stands n k c s l below = go (or_cases (trusted_root t.seen c) (link t.seen c && served n t c.domain c.verifying) s.good)
    where
      again : (m : ℕ) → T (good (suc m) t c) → suc n ≤ suc m
      again m g = l.no_fewer (suc m) (omega arith) (served_by m k c (record { mem = s.mem; domain = s.domain; key = s.key; good = g }))

      alone : T (trusted_root t.seen c) → n ≡ 0
      alone r = let g : T (good 1 t c) = search tests in omega (arith, again 0 g)

      shorter : (m : ℕ) → T (served m t d c.verifying) → T (link t.seen c) → n ≤ m
      shorter m v i =
          let w : T (served m t c.domain c.verifying) = rw s.domain v in
          let g : T (good (suc m) t c) = search tests in
          omega (arith, again m g)

      go : T (trusted_root t.seen c) ⊎ T (link t.seen c && served n t c.domain c.verifying) → Chain t d k (c ∷ climb n t d c.verifying)
      go (inl r) =
          subst (λ n. Chain t d k (c ∷ climb n t d c.verifying)) (sym (alone r))
          (ends (record { certificate = c; mem = s.mem; good = r; domain = s.domain; key = s.key }))
      go (inr b) =
          let up : T (served n t c.domain c.verifying) = search tests in
          goes_on (record { certificate = c; mem = s.mem; good = search tests; domain = s.domain; key = s.key; verifying = refl })
          (below (record { serves = rw s.domain at up; no_fewer = λ m lo v. shorter m v (search tests) }))

  climb_chain : (n k : ℕ) → ServedLeast n k → Chain t d k (climb n t d k)
  unfolding climb
  climb_chain zero k s = absurd (none_served k s.serves)
  climb_chain (suc n) k s = stands n k (choice n k) (choice_serves n k s.serves) s (climb_chain n (choice n k).verifying)

  -- ---- the link count

  linked : (k : ℕ) → T (chains_to t k d) → links t k d ≢ 0
  linked k c z = (links_none t k d (chains_signed t k d c) trusted).0 z (chains_chain t k d c)

  counted : (k : ℕ) → links t k d ≡ least most_links (λ n. within n t k d)
  unfolding links
  counted k = cond_cases (λ n. n ≡ least most_links (λ n. within n t k d)) (eqb d 0) _ _ (λ z. absurd (trusted (eqb→eq d 0 z))) (λ z. refl)

  links_least : (k : ℕ) → T (chains_to t k d) → ServedLeast (links t k d) k
  unfolding within chains_to
  links_least k c = subst (λ n. ServedLeast n k) (sym (counted k)) (record { serves = serves; no_fewer = no_fewer })
    where
      f : ℕ → Bool
      f n = within n t k d

      signed : k ≢ 0
      signed = chains_signed t k d c

      nz : least most_links f ≢ 0
      nz = (least_least f most_links most_links (omega arith) (omega arith) c).0

      serves : T (served (least most_links f) t d k)
      serves = let p : T (within (least most_links f) t k d) = least_passes f most_links nz in search tests

      no_fewer : (m : ℕ) → 1 ≤ m → T (served m t d k) → least most_links f ≤ m
      no_fewer m lo s =
          by_test (leb m most_links) (λ b. (least_least f most_links m lo (leb→le m most_links b) (search tests)).1)
          (λ b. omega (arith, nleb→lt m most_links b, least_small f most_links))

  -- ---- the chain that is told, of a key that chains

  pub told_shortest : (k : ℕ) → T (chains_to t k d) → (s : Shortest t d k (links t k d)) × (s.records ≡ chain_told t d k)
  unfolding chain_told
  told_shortest k c = (
    record {
      records = chain_told t d k;
      is_chain = climb_chain (links t k d) k (links_least k c);
      long = length_climb (links t k d) t d k;
      least = (links_shortest t k d trusted (linked k c)).least;
    },
    refl,
  )

  pub told_lowest : (k : ℕ) → LowestEach t d k (chain_told t d k)
  unfolding chain_told
  told_lowest k = climb_lowest (links t k d) k

  pub told_length : (k : ℕ) → T (chains_to t k d) → (1 ≤ length (chain_told t d k)) × (length (chain_told t d k) ≤ most_links)
  unfolding chain_told
  told_length k c = let e = length_climb (links t k d) t d k in (omega (arith, linked k c), omega (arith, links_small t k d))
