-- 01, "Chains". Definitions only.
use Rattle.std.specs.Prelude.{ℕ, zero, suc}
use mathlib.Core.{Bool.{Bool, false, cond, not, ◌&&◌, ◌||◌}, List.{[], ◌∷◌}}
use Rattle.std.specs.Prelude.{eqb, leb}
use Rattle.records.specs.{Phone.{Seen, Trust}, declared.Certificate.Certificate}
use Rattle.rules.specs.{declared.Chained.Chained, Words.{any, least, first, ◌⇒◌}}

-- "A record is present if its place is 0 or the present card."
unfoldable pub present : Seen → Certificate → Bool
present s c = eqb c.place 0 || eqb c.place s.card

-- "clock ≤ expiry"
unfoldable pub in_date : ℕ → Certificate → Bool
in_date clock c = leb clock c.expiry

-- 02, item 5: "valid" of a root "means marked valid and not past its date"
unfoldable pub valid_root : ℕ → Certificate → Bool
valid_root clock c = eqb c.kind 0 && eqb c.mark 1 && in_date clock c

-- "A trusted root is a present root with mark 1 and enabled 1." It "now also needs clock ≤ expiry".
unfoldable pub trusted_root : Seen → Certificate → Bool
trusted_root s c = valid_root s.clock c && eqb c.enabled 1 && present s c

-- "a present issued record with clock ≤ expiry"
unfoldable pub link : Seen → Certificate → Bool
link s c = eqb c.kind 1 && in_date s.clock c && present s c

-- a record of domain d with the key k that passes the test
unfoldable pub serves : (Certificate → Bool) → ℕ → ℕ → Certificate → Bool
serves f d k c = eqb c.domain d && eqb c.key k && f c

-- "A good record within n links is, for n of at least 1, a trusted root, or a present issued record with clock ≤ expiry for which some record of the
-- same domain is good within n − 1 and has its verifying key as key. Within 0 nothing is good."
unfoldable pub good : ℕ → Trust → Certificate → Bool
good zero t c = false
good (suc n) t c =
    trusted_root t.seen c || (link t.seen c && any (serves (good n t) c.domain c.verifying) t.certificates)

-- "The limit is 4, root included."
abbrev pub most_links : ℕ
most_links = 4

-- the signing key k "is not 0 and is the key of a good record of domain d", good within n
unfoldable pub within : ℕ → Trust → ℕ → ℕ → Bool
within n t k d = not (eqb k 0) && any (serves (good n t) d k) t.certificates

-- "An executable chains to d if its signing key is not 0 and is the key of a good record of domain d"
unfoldable pub chains_to : Trust → ℕ → ℕ → Bool
chains_to t k d = within most_links t k d

-- "I4 makes d unique": the domain that the key k chains to, and 0 where there is none
unfoldable pub chain_domain : Trust → ℕ → ℕ
chain_domain t k = first ((chains_to t k 1 ⇒ 1) ∷ (chains_to t k 2 ⇒ 2) ∷ (chains_to t k 3 ⇒ 3) ∷ [])

-- "The link count is the least n that serves, 1 to 4, and 0 where there is no chain."
unfoldable pub links : Trust → ℕ → ℕ → ℕ
links t k d = cond (eqb d 0) 0 (least most_links (λ n. within n t k d))

-- "Event handling knows trust only through this answer, the domain and the link count."
unfoldable pub chain_of : Trust → ℕ → Chained
chain_of t k = record { domain = chain_domain t k; links = links t k (chain_domain t k) }
