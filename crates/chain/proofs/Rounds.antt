-- The good slots of a domain, round by round: only the slots that the last round added can make another one good. Assumes nothing.
use Prim.Native.Nat.{ℕ, suc, ◌+◌, ◌-◌, ◌^◌, ◌<◌}
use mathlib.Core.{Bool.{Bool, true, false, not, ◌&&◌, ◌||◌, and-true}, Logic.◌≢◌, Path.{◌≡◌, refl, sym, ap, ap₂, ◌∙◌, subst}}
use native.Mathlib.Omega.{arith}
use borrow.Author.Tests.{eq-eqb, ne_eqb}
use lib.{Bits.{bit_or, bit_xor}, Dec.{T, eqb, eqb→eq}, ListN.length, Pow.pow_mono}
use Rattle.records.specs.{Phone.Trust, declared.Certificate.Certificate, declared.Executable.Executable}
use Rattle.bits.specs.SlotWord.{word, any_of, keep}
use Rattle.bits.proofs.WordLaws.{any_nothing, keep_lt, keep_none, word_lt, word_none, word_same, word_or, word_less, keep_word}
use Rattle.rules.specs.{Words.any, Chains.{trusted_root, link, serves, good, within, chains_to}}
use Rattle.chain.specs.declared.search.Sorted.{Sorted}
use Rattle.chain.specs.SlotWords.{chained_in, within_domain, SortedAs, new_after, left_after, verified_by, RoundOf, good_slots}
use Rattle.chain.proofs.{Good.good_more, Sorting.unrooted, WordsAny.{any_none, any_same, any_or, word_any, Going}}

-- ---- the words of one domain

module _ (t : Trust) (d : ℕ) where
  pub within_lt : (f : Certificate → Bool) (w : ℕ) → w ≡ within_domain t d f → w < 2 ^ length t.certificates
  unfolding within_domain
  within_lt f w e = subst (λ k. k < 2 ^ length t.certificates) (sym e) (word_lt (λ c. f c && eqb c.domain d) t.certificates)

  within_same : (f g : Certificate → Bool) → ((c : Certificate) → f c ≡ g c) → within_domain t d f ≡ within_domain t d g
  unfolding within_domain
  within_same f g h =
      word_same (λ c. f c && eqb c.domain d) (λ c. g c && eqb c.domain d) (λ c. ap (λ b. b && eqb c.domain d) (h c)) t.certificates

  -- ---- no round, and one

  served_none : (k : ℕ) (e : ℕ) → any (serves (good 0 t) e k) t.certificates ≡ false
  unfolding serves good
  served_none k e = any_none (serves (good 0 t) e k) (λ c. go (eqb c.domain e) (eqb c.key k)) t.certificates
    where
      go : (a b : Bool) → (a && b && false) ≡ false
      go true true = refl
      go true false = refl
      go false b = refl

  good_one : (c : Certificate) → trusted_root t.seen c ≡ good 1 t c
  unfolding good
  good_one c = rw (served_none c.verifying c.domain) (go (trusted_root t.seen c) (link t.seen c))
    where
      go : (a b : Bool) → a ≡ (a || (b && false))
      go true b = refl
      go false true = refl
      go false false = refl

  new_one : (c : Certificate) → good 1 t c ≡ new_after 0 t c
  unfolding new_after good
  new_one c = sym (and-true (good 1 t c))

  left_one : (c : Certificate) → link t.seen c ≡ left_after 0 t c
  unfolding left_after
  left_one c = go (link t.seen c) (good 1 t c) (λ h. sym (good_one c) ∙ unrooted t.seen c h)
    where
      go : (a b : Bool) → (T a → b ≡ false) → a ≡ (a && not b)
      go true b h = rw (h tt)
      go false b h = refl

  pub round_none : (n : ℕ) → n ≡ 0 → 0 ≡ within_domain t d (good n t)
  unfolding good within_domain
  round_none n z =
      sym (word_none (λ c. good 0 t c && eqb c.domain d) (λ c. refl) t.certificates)
      ∙ ap (λ k. word (λ c. good k t c && eqb c.domain d) t.certificates) (sym z)

  pub round_one : (r : Sorted) → SortedAs t d r → RoundOf 0 t d r.roots r.roots r.links
  round_one r s =
      record {
        good = s.roots ∙ within_same (trusted_root t.seen) (good 1 t) good_one;
        fresh = s.roots ∙ within_same (trusted_root t.seen) (new_after 0 t) (λ c. good_one c ∙ new_one c);
        left = s.links ∙ within_same (link t.seen) (left_after 0 t) left_one;
      }

  -- ---- one round more

  grows : (n : ℕ) (c : Certificate) → good (suc n) t c ≡ (good n t c || new_after n t c)
  unfolding new_after
  grows n c = go (good n t c) (good (suc n) t c) (good_more n t c)
    where
      go : (a b : Bool) → (T a → T b) → b ≡ (a || (b && not a))
      go true true h = refl
      go true false h = absurd (h tt)
      go false true h = refl
      go false false h = refl

  module _ (n w : ℕ) (e : w ≡ within_domain t d (new_after n t)) where
    -- what verifies a link within one link more did so before, or is new
    served : (c : Certificate) → c.domain ≡ d
        → any (serves (good (suc n) t) c.domain c.verifying) t.certificates
        ≡ (any (serves (good n t) c.domain c.verifying) t.certificates || verified_by t w c)
    unfolding serves verified_by within_domain
    served c q =
        any_same (serves (good (suc n) t) c.domain c.verifying) (λ x. old x || new x)
        (λ x. split (eqb x.domain c.domain) (eqb x.key c.verifying) x) t.certificates
        ∙ any_or old new t.certificates
        ∙ ap (λ b. any old t.certificates || b) (sym told)
      where
        old : Certificate → Bool
        old = serves (good n t) c.domain c.verifying

        new : Certificate → Bool
        new x = (new_after n t x && eqb x.domain c.domain) && eqb x.key c.verifying

        split : (a b : Bool) (x : Certificate) → (a && b && good (suc n) t x) ≡ ((a && b && good n t x) || ((new_after n t x && a) && b))
        split a b x = ap (λ g. a && b && g) (grows n x) ∙ go a b (good n t x) (new_after n t x)
          where
            go : (a b g h : Bool) → (a && b && (g || h)) ≡ ((a && b && g) || ((h && a) && b))
            go true true true h = refl
            go true true false true = refl
            go true true false false = refl
            go true false g true = refl
            go true false g false = refl
            go false b g true = refl
            go false b g false = refl

        told : any_of w (λ x. eqb x.key c.verifying) t.certificates ≡ any new t.certificates
        told =
            ap (λ k. any_of k (λ x. eqb x.key c.verifying) t.certificates) (e ∙ ap (λ k. within_domain t k (new_after n t)) (sym q))
            ∙ word_any (λ x. new_after n t x && eqb x.domain c.domain) (λ x. eqb x.key c.verifying) t.certificates

    -- r is whether a record is a trusted root, l whether it is a link, s and v whether it was verified before, and is now
    abbrev before : Bool → Bool → Bool → Bool
    before r l s = r || (l && s)

    good_then : (r l s v : Bool) → before r l (s || v) ≡ (before r l s || ((l && not (before r l s)) && v))
    good_then true l s v = refl
    good_then false true true v = refl
    good_then false true false true = refl
    good_then false true false false = refl
    good_then false false s v = refl

    new_then : (r l s v : Bool) → (before r l (s || v) && not (before r l s)) ≡ ((l && not (before r l s)) && v)
    new_then true true s v = refl
    new_then true false s v = refl
    new_then false true true v = refl
    new_then false true false true = refl
    new_then false true false false = refl
    new_then false false s v = refl

    left_then : (r l s v : Bool) → (l && not (before r l (s || v))) ≡ ((l && not (before r l s)) && not v)
    left_then true true s v = refl
    left_then true false s v = refl
    left_then false true true v = refl
    left_then false true false true = refl
    left_then false true false false = refl
    left_then false false s v = refl

    module _ (c : Certificate) where
      -- the same of the record's own domain, and nothing of another
      of_domain : (f g : Bool) → (c.domain ≡ d → f ≡ g) → (f && eqb c.domain d) ≡ (g && eqb c.domain d)
      of_domain f g h = go (eqb c.domain d) (λ x. eqb→eq c.domain d x)
        where
          go : (b : Bool) → (T b → c.domain ≡ d) → (f && b) ≡ (g && b)
          go true k = ap (λ x. x && true) (h (k tt))
          go false k = none f ∙ sym (none g)
            where
              none : (x : Bool) → (x && false) ≡ false
              none true = refl
              none false = refl

      abbrev old : Bool
      old = any (serves (good n t) c.domain c.verifying) t.certificates

      good_next : c.domain ≡ d → good (suc (suc n)) t c ≡ (good (suc n) t c || (left_after n t c && verified_by t w c))
      unfolding good left_after
      good_next q =
          rw (served c q) (good_then (trusted_root t.seen c) (link t.seen c) old (verified_by t w c))

      new_next : c.domain ≡ d → new_after (suc n) t c ≡ (left_after n t c && verified_by t w c)
      unfolding good left_after new_after
      new_next q =
          rw (served c q) (new_then (trusted_root t.seen c) (link t.seen c) old (verified_by t w c))

      left_next : c.domain ≡ d → left_after (suc n) t c ≡ (left_after n t c && not (verified_by t w c))
      unfolding good left_after
      left_next q =
          rw (served c q) (left_then (trusted_root t.seen c) (link t.seen c) old (verified_by t w c))

      turn : (a b v : Bool) → ((a && b) && v) ≡ ((a && v) && b)
      turn true true true = refl
      turn true true false = refl
      turn true false true = refl
      turn true false false = refl
      turn false b v = refl

      both : (a b o : Bool) → ((a && o) || (b && o)) ≡ ((a || b) && o)
      both true b true = refl
      both true true false = refl
      both true false false = refl
      both false b o = refl

    abbrev left : Certificate → Bool
    left c = left_after n t c && eqb c.domain d

    module _ {g l : ℕ} (r : RoundOf n t d g w l) {found : ℕ} (k : found ≡ keep l (verified_by t w) t.certificates) where
      found_is : found ≡ word (λ c. left c && verified_by t w c) t.certificates
      unfolding within_domain
      found_is = k ∙ ap (λ x. keep x (verified_by t w) t.certificates) r.left ∙ keep_word left (verified_by t w) t.certificates

      new_found : found ≡ within_domain t d (new_after (suc n) t)
      unfolding within_domain
      new_found =
          found_is
          ∙ word_same (λ c. left c && verified_by t w c) (λ c. new_after (suc n) t c && eqb c.domain d)
          (λ c. turn c (left_after n t c) (eqb c.domain d) (verified_by t w c)
          ∙ of_domain c (left_after n t c && verified_by t w c) (new_after (suc n) t c) (λ q. sym (new_next c q)))
          t.certificates

      good_found : bit_or g found ≡ within_domain t d (good (suc (suc n)) t)
      unfolding within_domain
      good_found =
          ap₂ bit_or r.good found_is
          ∙ word_or (λ c. good (suc n) t c && eqb c.domain d) (λ c. left c && verified_by t w c) t.certificates
          ∙ word_same (λ c. (good (suc n) t c && eqb c.domain d) || (left c && verified_by t w c)) (λ c. good (suc (suc n)) t c && eqb c.domain d)
          (λ c.
          ap (λ x. (good (suc n) t c && eqb c.domain d) || x) (turn c (left_after n t c) (eqb c.domain d) (verified_by t w c))
          ∙ both c (good (suc n) t c) (left_after n t c && verified_by t w c) (eqb c.domain d)
          ∙ of_domain c (good (suc n) t c || (left_after n t c && verified_by t w c)) (good (suc (suc n)) t c) (λ q. sym (good_next c q)))
          t.certificates

      left_found : bit_xor l found ≡ within_domain t d (left_after (suc n) t)
      unfolding within_domain
      left_found =
          ap₂ bit_xor r.left found_is
          ∙ word_less left (verified_by t w) t.certificates
          ∙ word_same (λ c. left c && not (verified_by t w c)) (λ c. left_after (suc n) t c && eqb c.domain d)
          (λ c. turn c (left_after n t c) (eqb c.domain d) (not (verified_by t w c))
          ∙ of_domain c (left_after n t c && not (verified_by t w c)) (left_after (suc n) t c) (λ q. sym (left_next c q)))
          t.certificates

  -- as the search goes
  pub round_next : (n : ℕ) {g f l found : ℕ} → RoundOf n t d g f l → found ≡ keep l (verified_by t f) t.certificates
      → RoundOf (suc n) t d (bit_or g found) found (bit_xor l found)
  round_next n {g} {f} {l} {found} r k =
      record { good = good_found n f r.fresh r k; fresh = new_found n f r.fresh r k; left = left_found n f r.fresh r k }

  -- what is known after k rounds, and n more
  pub rounds_over : (k n : ℕ) {g f l : ℕ} → RoundOf k t d g f l → n ≡ 0 → g ≡ within_domain t d (good (suc (k + n)) t)
  rounds_over k n r z = let e : suc k ≡ suc (k + n) = omega arith in r.good ∙ ap (λ m. within_domain t d (good m t)) e

  pub rounds_all : (n : ℕ) → n ≢ 0 → (w : ℕ) → w ≡ within_domain t d (good (suc (0 + (n - 1))) t) → w ≡ within_domain t d (good n t)
  rounds_all n z w q = let e : suc (0 + (n - 1)) ≡ n = omega arith in q ∙ ap (λ m. within_domain t d (good m t)) e

  pub rounds_go_on : (k n : ℕ) → n ≢ 0 → (w : ℕ) → w ≡ within_domain t d (good (suc (suc k + (n - 1))) t) → w ≡ within_domain t d (good (suc (k + n)) t)
  rounds_go_on k n z w q = let e : suc (suc k + (n - 1)) ≡ suc (k + n) = omega arith in q ∙ ap (λ m. within_domain t d (good m t)) e

-- ---- the links that are verified

module _ (t : Trust) (w left : ℕ) where
  pub verified_nothing : w ≡ 0 → 0 ≡ keep left (verified_by t w) t.certificates
  unfolding verified_by
  verified_nothing z =
      sym (keep_none (verified_by t w) none left t.certificates)
    where
      none : (c : Certificate) → any_of w (λ e. eqb e.key c.verifying) t.certificates ≡ false
      none c =
          ap (λ k. any_of k (λ e. eqb e.key c.verifying) t.certificates) z ∙ any_nothing (λ e. eqb e.key c.verifying) t.certificates

  -- what is found is no more than a word
  pub found_lt : {found : ℕ} → found ≡ keep left (verified_by t w) t.certificates → found < 2 ^ length t.certificates
  found_lt e = subst (λ k. k < 2 ^ length t.certificates) (sym e) (keep_lt (verified_by t w) left t.certificates)

  pub found_fits : {v : ℕ} → Going t v → (a k : ℕ) → a + k ≡ keep left (verified_by t w) t.certificates → a < 2 ^ 64
  found_fits g a k e =
      let f = found_lt e in
      let m = pow_mono {i = length t.certificates} {j = 64} g.few in
      omega arith

-- ---- one executable

module _ (t : Trust) (d : ℕ) (x : Executable) where
  pub chained_other : x.domain ≢ d → true ≡ chained_in d t x
  unfolding chained_in
  chained_other h = rw (ne_eqb x.domain d h)

  pub chained_by : x.domain ≡ d → (b : Bool) (w : ℕ) → w ≡ good_slots t d
      → b ≡ any_of w (λ c. eqb c.key x.signing) t.certificates → (not (eqb x.signing 0) && b) ≡ chained_in d t x
  unfolding chained_in chains_to within serves within_domain
  chained_by h b w e q =
      rw (eq-eqb x.domain d h)
      (ap (λ k. not (eqb x.signing 0) && k)
      (q
      ∙ ap (λ k. any_of k (λ c. eqb c.key x.signing) t.certificates) e
      ∙ word_any (λ c. good 4 t c && eqb c.domain d) (λ c. eqb c.key x.signing) t.certificates
      ∙ any_same (λ c. (good 4 t c && eqb c.domain d) && eqb c.key x.signing) (serves (good 4 t) d x.signing)
      (λ c. go (good 4 t c) (eqb c.domain d) (eqb c.key x.signing)) t.certificates))
    where
      go : (a b c : Bool) → ((a && b) && c) ≡ (b && c && a)
      go true true true = refl
      go true true false = refl
      go true false c = refl
      go false true true = refl
      go false true false = refl
      go false false c = refl
