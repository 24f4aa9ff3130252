-- The first record with a key tells the domain that the key chains to, where it chains at all. Assumes nothing.
use Prim.Native.Nat.{ℕ, ◌≤◌, ◌<◌}
use mathlib.Core.{Bool.{Bool, true, false, cond}, List.Memᴰ, Logic.{◌≢◌, ◌⊎◌, inl, inr}, Path.{◌≡◌, refl, sym, ap, ◌∙◌}}
use native.Mathlib.Omega.{arith}
use borrow.Author.Tests.{ne_eqb}
use lib.{Dec.{T, eqb, eqb→eq}, ListN.{length}}
use Rattle.std.specs.Prelude.{Option, Some, None}
use Rattle.std.proofs.lemmas.{Bool.{ltb-true, ltb-false}, List.get_or_past, Option.{cond_some, none-some}}
use Rattle.records.specs.{Phone.{Trust, no_certificate}, declared.Certificate.Certificate}
use Rattle.rules.specs.{declared.Chained.Chained, Words.{any, first_place, least}}
use Rattle.rules.specs.Chains.{serves, good, most_links, within, chains_to, chain_domain, links, chain_of}
use Rattle.rules.specs.AcceptedImage.{Keyed}
use Rattle.laws.proofs.{Tests.{tests, eq→eqb, neqb→ne}, Lists.{any_out, any_in, find_in}, Places.{place_told, place_named}}
use Rattle.laws.proofs.{Least.{least_small, least_passes, least_least}, Domain.{chain_domain_is, chain_found}}
use Rattle.sweep.specs.FirstPassing.{found}
use Rattle.chain.specs.SlotWords.{slot, holder}
use Rattle.chain.proofs.Good.{good_up, serves_more}

abbrev pub told : ℕ → ℕ → Chained
told d n = record { domain = d; links = n }

module _ (t : Trust) (k : ℕ) where
  -- a key that chains to a domain has a record of that domain
  record Held (d : ℕ) : Type 0 where
    it : Certificate
    mem : Memᴰ it t.certificates
    key : it.key ≡ k
    domain : it.domain ≡ d
    signed : k ≢ 0

  held : (d : ℕ) → T (chains_to t k d) → Held d
  unfolding chains_to within serves
  held d h =
      let s = any_out (serves (good most_links t) d k) t.certificates (search tests) in
      let a : T (serves (good most_links t) d k s.it) = s.passes in
      record {
        it = s.it;
        mem = s.mem;
        key = eqb→eq s.it.key k (search tests);
        domain = eqb→eq s.it.domain d (search tests);
        signed = neqb→ne k 0 (search tests);
      }

  -- a link count says that there is a chain, and a chain has a link count
  within_up : (n m d : ℕ) → m ≤ n → T (within m t k d) → T (within n t k d)
  unfolding within
  within_up n m d l h =
      let a : T (any (serves (good m t) d k) t.certificates) = search tests in
      let b = serves_more (good m t) (good n t) (λ c. good_up n m t c l) d k t.certificates a in
      search tests

  counted_chains : (d : ℕ) → links t k d ≢ 0 → T (chains_to t k d)
  unfolding links chains_to
  counted_chains d h = go (eqb d 0) h
    where
      go : (b : Bool) → cond b 0 (least most_links (λ n. within n t k d)) ≢ 0 → T (within most_links t k d)
      go true x = absurd (x refl)
      go false x =
          within_up most_links (least most_links (λ n. within n t k d)) d
          (least_small (λ n. within n t k d) most_links) (least_passes (λ n. within n t k d) most_links x)

  chains_counted : (d : ℕ) → d ≢ 0 → T (chains_to t k d) → links t k d ≢ 0
  unfolding links chains_to
  chains_counted d z h = rw (ne_eqb d 0 z) (least_least (λ n. within n t k d) most_links most_links (omega arith) (omega arith) h).0

  unchained : chain_domain t k ≡ 0 → told 0 0 ≡ chain_of t k
  unfolding chain_of links
  unchained z = ap (λ x. told x (links t k x)) (sym z)

  module _ (keyed : Keyed t) where
    -- the first record with the key is of the domain of any other
    holder_domain : (d : ℕ) → Held d → ((holder t k).domain ≡ d) × (d ≢ 0) × (d ≤ 3)
    unfolding holder
    holder_domain d h =
        let c = h.it in
        let g : T (any (λ x. eqb x.key k) t.certificates) = any_in (λ x. eqb x.key k) h.mem (eq→eqb c.key k h.key) in
        let f = find_in (λ x. eqb x.key k) no_certificate t.certificates g in
        let e : (holder t k).key ≡ k = eqb→eq (holder t k).key k f.1 in
        let nz : (holder t k).key ≢ 0 = λ z. h.signed (sym e ∙ z) in
        let o : (holder t k).domain ≡ c.domain = keyed.one_domain (holder t k) c f.0 h.mem nz (e ∙ sym h.key) in
        let r = keyed.domains c h.mem (λ z. h.signed (sym h.key ∙ z)) in
        let u : c.domain ≡ d = h.domain in
        (o ∙ u, omega (arith, r.0), omega (arith, r.1))

    pub chain_held : (d : ℕ) → d ≡ (holder t k).domain → (n : ℕ) → n ≡ links t k d → n ≢ 0 → told d n ≡ chain_of t k
    unfolding chain_of
    chain_held d e n q z =
        let c = counted_chains d (λ y. z (q ∙ y)) in
        let r = holder_domain d (held d c) in
        ap (told d) q
        ∙ ap (λ x. told x (links t k x)) (sym (chain_domain_is t keyed.one_domain k d r.1 r.2 c))

    pub chain_unheld : (d : ℕ) → d ≡ (holder t k).domain → (n : ℕ) → n ≡ links t k d → n ≡ 0 → told 0 0 ≡ chain_of t k
    chain_unheld d e n q z = go (chain_found t k)
      where
        go : (chain_domain t k ≡ 0) ⊎ T (chains_to t k (chain_domain t k)) → told 0 0 ≡ chain_of t k
        go (inl y) = unchained y
        go (inr c) =
            let r = holder_domain (chain_domain t k) (held (chain_domain t k) c) in
            absurd (chains_counted (chain_domain t k) r.1 c (ap (links t k) (sym r.0 ∙ sym e) ∙ sym q ∙ z))

-- ---- the search for it

module _ (t : Trust) (k : ℕ) where
  abbrev pub of_key : Certificate → Bool
  of_key c = eqb c.key k

  abbrev place : ℕ
  place = first_place of_key t.certificates

  module _ {r : Option ℕ} (q : r ≡ found of_key t.certificates) where
    module _ {j : ℕ} (e : r ≡ Some j) where
      at : (any of_key t.certificates ≡ true) × (place ≡ j)
      unfolding found
      at = cond_some (any of_key t.certificates) place j (sym q ∙ e)

      pub holder_in : j < length t.certificates
      holder_in = omega (arith, at.1, ltb-true place (length t.certificates) (place_told of_key t.certificates refl refl ∙ at.0))

      pub holder_here : {c : Certificate} → c ≡ slot t j → c.domain ≡ (holder t k).domain
      unfolding holder
      holder_here read = ap (λ c. c.domain) (place_named of_key t.certificates (sym at.1) refl no_certificate read)

    -- behind every record stands none, whose domain is 0
    pub holder_none : r ≡ None → 0 ≡ (holder t k).domain
    unfolding found holder
    holder_none e =
        let past = ltb-false place (length t.certificates) (place_told of_key t.certificates refl refl ∙ go (any of_key t.certificates) (sym e ∙ q)) in
        ap (λ c. c.domain) (sym (get_or_past t.certificates place no_certificate past) ∙ place_named of_key t.certificates refl refl no_certificate refl)
      where
        go : (b : Bool) → None ≡ cond b (Some place) None → b ≡ false
        go true h = absurd (none-some place h)
        go false h = refl
