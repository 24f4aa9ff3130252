-- A chain as a list of records: there is one where the rules say so, and the link count is the length of a shortest. Assumes nothing.
use Prim.Native.Nat.{ℕ, zero, suc, ◌≤◌}
use mathlib.Core.{Bool.{Bool, true, false, cond, not}, List.{List, [], ◌∷◌}, Logic.{◌≢◌, ◌↔◌}, Path.{◌≡◌, refl}}
use native.Mathlib.Omega.{arith}
use lib.{Dec.{T, eqb, leb, leb→le, nleb→lt, eqb→eq}, ListN.length}
use Rattle.records.specs.{Phone.Trust, declared.Certificate.Certificate}
use Rattle.rules.specs.{Words.least, Explicit.{Chain, ends, goes_on, ChainWithin, Shortest}, Chains.{most_links, within, chains_to, links}}
use Rattle.laws.proofs.{Tests.{neqb→ne, by_test}, Keys.{Key, by_root, by_issued, within_key, within_signed, key_within}}
use Rattle.laws.proofs.Least.{least_small, least_passes, least_least}

-- ---- chains of at most n records are what is good within n

key_chain : (t : Trust) {n d k : ℕ} → Key t n d k → ChainWithin n t d k
key_chain t (by_root r) = record { records = r.certificate ∷ []; is_chain = ends r; short = omega arith }
key_chain t (by_issued v s r) =
    let c = key_chain t r in
    record { records = s.certificate ∷ c.records; is_chain = goes_on s c.is_chain; short = omega arith }

chain_key : (t : Trust) (d : ℕ) {k : ℕ} {l : List Certificate} → Chain t d k l → (n : ℕ) → length l ≤ n → Key t n d k
chain_key t d (ends r) zero h = absurd (omega arith)
chain_key t d (ends r) (suc n) h = by_root r
chain_key t d (goes_on s c) zero h = absurd (omega arith)
chain_key t d (goes_on s c) (suc n) h = by_issued _ s (chain_key t d c n (omega arith))

within_chain : (t : Trust) (n k d : ℕ) → T (within n t k d) → ChainWithin n t d k
within_chain t n k d h = key_chain t (within_key t n k d h)

chain_within : (t : Trust) (n k d : ℕ) (l : List Certificate) → k ≢ 0 → Chain t d k l → length l ≤ n → T (within n t k d)
chain_within t n k d l signed c h = key_within t n k d signed (chain_key t d c n h)

-- ---- an executable chains to d exactly where there is a chain of at most 4 records

pub chains_key : (t : Trust) (k d : ℕ) → T (chains_to t k d) → Key t most_links d k
unfolding chains_to
chains_key t k d h = within_key t most_links k d h

pub chains_signed : (t : Trust) (k d : ℕ) → T (chains_to t k d) → k ≢ 0
unfolding chains_to
chains_signed t k d h = within_signed t most_links k d h

pub key_chains : (t : Trust) (k d : ℕ) → k ≢ 0 → Key t most_links d k → T (chains_to t k d)
unfolding chains_to
key_chains t k d signed h = key_within t most_links k d signed h

pub chains_chain : (t : Trust) (k d : ℕ) → T (chains_to t k d) → ChainWithin most_links t d k
chains_chain t k d h = key_chain t (chains_key t k d h)

pub chain_chains : (t : Trust) (k d : ℕ) → k ≢ 0 → ChainWithin most_links t d k → T (chains_to t k d)
chain_chains t k d signed c = key_chains t k d signed (chain_key t d c.is_chain most_links c.short)

-- ---- the link count

abbrev counted : Trust → ℕ → ℕ → ℕ
counted t k d = least most_links (λ n. within n t k d)

links_cases : (P : ℕ → Type 0) (t : Trust) (k d : ℕ) → (d ≡ 0 → P 0) → (d ≢ 0 → P (counted t k d)) → P (links t k d)
unfolding links
links_cases P t k d none some = go (eqb d 0) (λ z. eqb→eq d 0 z) (λ z. neqb→ne d 0 z)
  where
    go : (b : Bool) → (T b → d ≡ 0) → (T (not b) → d ≢ 0) → P (cond b 0 (counted t k d))
    go true y n = none (y tt)
    go false y n = some (n tt)

pub links_small : (t : Trust) (k d : ℕ) → links t k d ≤ most_links
links_small t k d =
    links_cases (λ n. n ≤ most_links) t k d (λ z. omega arith) (λ nz. least_small (λ n. within n t k d) most_links)

links_serve : (t : Trust) (k d : ℕ) → links t k d ≢ 0 → T (within (links t k d) t k d)
links_serve t k d nz =
    links_cases (λ n. n ≢ 0 → T (within n t k d)) t k d (λ z x. absurd (x refl)) (λ y x. least_passes (λ n. within n t k d) most_links x) nz

-- no chain is shorter, and where there is a chain of at most 4 the count is not 0
links_least : (t : Trust) (k d n : ℕ) → d ≢ 0 → 1 ≤ n → n ≤ most_links → T (within n t k d) → (links t k d ≢ 0) × (links t k d ≤ n)
links_least t k d n trusted lo hi h =
    links_cases (λ m. (m ≢ 0) × (m ≤ n)) t k d (λ z. absurd (trusted z)) (λ x. least_least (λ n. within n t k d) most_links n lo hi h)

chain_long : (t : Trust) (d : ℕ) {k : ℕ} {l : List Certificate} → Chain t d k l → 1 ≤ length l
chain_long t d (ends r) = omega arith
chain_long t d (goes_on s c) = omega arith

chain_counted : (t : Trust) (k d : ℕ) (l : List Certificate) → k ≢ 0 → d ≢ 0 → Chain t d k l → length l ≤ most_links
    → (links t k d ≢ 0) × (links t k d ≤ length l)
chain_counted t k d l signed trusted c h =
    links_least t k d (length l) trusted (chain_long t d c) h (chain_within t (length l) k d l signed c (omega arith))

pub links_shortest : (t : Trust) (k d : ℕ) → d ≢ 0 → links t k d ≢ 0 → Shortest t d k (links t k d)
links_shortest t k d trusted nz =
    record { records = c.records; is_chain = c.is_chain; long = omega (arith, c.short, least c.records c.is_chain); least = least }
  where
    served : T (within (links t k d) t k d)
    served = links_serve t k d nz

    c : ChainWithin (links t k d) t d k
    c = within_chain t (links t k d) k d served

    least : (l : List Certificate) → Chain t d k l → links t k d ≤ length l
    least l x =
        by_test (leb (length l) most_links)
        (λ h. (chain_counted t k d l (within_signed t (links t k d) k d served) trusted x (leb→le (length l) most_links h)).1)
        (λ h. omega (arith, links_small t k d, nleb→lt (length l) most_links h))

-- the count is 0 exactly where there is no chain of at most 4 records
pub links_none : (t : Trust) (k d : ℕ) → k ≢ 0 → d ≢ 0 → (links t k d ≡ 0) ↔ (ChainWithin most_links t d k → ⊥)
links_none t k d signed trusted = (
  λ z c. (chain_counted t k d c.records signed trusted c.is_chain c.short).0 z,
  λ none. by_test (eqb (links t k d) 0) (λ z. eqb→eq (links t k d) 0 z) (λ nz. absurd (none (found (neqb→ne (links t k d) 0 nz)))),
)
  where
    found : links t k d ≢ 0 → ChainWithin most_links t d k
    found nz =
        let s = links_shortest t k d trusted nz in
        record { records = s.records; is_chain = s.is_chain; short = omega (arith, s.long, links_small t k d) }
