-- What the searches keep: slots as the bits of a word. Definitions only.
use Rattle.std.specs.Prelude.{ℕ, suc, ◌+◌, Option, Some, None}
use mathlib.Core.{Bool.{Bool, cond, not, ◌&&◌, ◌||◌}, Path.◌≡◌}
use lib.{Bits.bit_or, Dec.eqb, ListN.get_or}
use Rattle.records.specs.{Phone.{Trust, no_certificate}, declared.Certificate.Certificate, declared.Executable.Executable}
use Rattle.bits.specs.SlotWord.{word, any_of}
use Rattle.rules.specs.{Words.{any, find}, Chains.{trusted_root, link, good, chains_to}}
use Rattle.chain.specs.{declared.GoodByDomain.GoodByDomain, declared.search.Sorted.Sorted}

abbrev pub slot : Trust → ℕ → Certificate
slot t i = get_or t.certificates i no_certificate

-- x chains to d, if that is its domain
unfoldable pub chained_in : ℕ → Trust → Executable → Bool
chained_in d t x = not (eqb x.domain d) || chains_to t x.signing d

-- ---- the good slots of a domain

-- the slots of domain d that pass a test
unfoldable pub within_domain : Trust → ℕ → (Certificate → Bool) → ℕ
within_domain t d f = word (λ c. f c && eqb c.domain d) t.certificates

-- the trusted roots and the links of domain d
pub record SortedAs (t : Trust) (d : ℕ) (r : Sorted) : Type 0 where
  pub roots : r.roots ≡ within_domain t d (trusted_root t.seen)
  pub links : r.links ≡ within_domain t d (link t.seen)

-- a round is a link, and the trusted roots are there before the first: what the nth round made good, and the links that are not good after it
unfoldable pub new_after : ℕ → Trust → Certificate → Bool
new_after n t c = good (suc n) t c && not (good n t c)

unfoldable pub left_after : ℕ → Trust → Certificate → Bool
left_after n t c = link t.seen c && not (good (suc n) t c)

-- a slot of the word has the verifying key of c as key
unfoldable pub verified_by : Trust → ℕ → Certificate → Bool
verified_by t w c = any_of w (λ e. eqb e.key c.verifying) t.certificates

-- what is known of domain d after n rounds: the good slots, those of them that are new, and the links that are left
pub record RoundOf (n : ℕ) (t : Trust) (d : ℕ) (g f l : ℕ) : Type 0 where
  pub good : g ≡ within_domain t d (good (suc n) t)
  pub fresh : f ≡ within_domain t d (new_after n t)
  pub left : l ≡ within_domain t d (left_after n t)

-- r are the good slots of domain d with n links more than whichever round left g, f and l
abbrev pub GoodBeyond : Trust → ℕ → ℕ → ℕ → ℕ → ℕ → ℕ → Type 0
GoodBeyond t d g f l n r = (k : ℕ) → RoundOf k t d g f l → r ≡ within_domain t d (good (suc (k + n)) t)

-- the slots of domain d that are good
abbrev pub good_slots : Trust → ℕ → ℕ
good_slots t d = within_domain t d (good 4 t)

-- those of each domain, and r are those of domain d
pub record IsGoodByDomain (t : Trust) (g : GoodByDomain) : Type 0 where
  pub operator : g.operator ≡ good_slots t 1
  pub manufacturer : g.manufacturer ≡ good_slots t 2
  pub third : g.third ≡ good_slots t 3

abbrev pub GoodIn : GoodByDomain → ℕ → ℕ → Type 0
GoodIn g d r = (t : Trust) → IsGoodByDomain t g → r ≡ good_slots t d

-- ---- the search back from one key: p tells the keys that a level looks for

-- a trusted root with such a key, and a link with such a key
unfoldable pub rooted : Trust → ℕ → (ℕ → Bool) → Certificate → Bool
rooted t d p c = eqb c.domain d && p c.key && trusted_root t.seen c

unfoldable pub linked : Trust → ℕ → (ℕ → Bool) → Certificate → Bool
linked t d p c = eqb c.domain d && p c.key && link t.seen c

-- a record with such a key is good within n
unfoldable pub reach : ℕ → Trust → ℕ → (ℕ → Bool) → Bool
reach n t d p = any (λ c. eqb c.domain d && p c.key && good n t c) t.certificates

-- the verifying keys of the slots of a word
abbrev pub verifiers : Trust → ℕ → ℕ → Bool
verifiers t w v = any_of w (λ c. eqb c.verifying v) t.certificates

-- a level: none where it has a trusted root, at which the search ends, and else its links, beside those that were there before
unfoldable pub level_of : Trust → ℕ → (ℕ → Bool) → ℕ → Option ℕ
level_of t d p before = cond (any (rooted t d p) t.certificates) None (Some (bit_or before (word (linked t d p) t.certificates)))

-- ---- the domain of a key

-- the first record with a key
unfoldable pub holder : Trust → ℕ → Certificate
holder t k = find (λ c. eqb c.key k) no_certificate t.certificates
