-- The sweep that finds the trusted roots and the links of a domain. Assumes nothing.
use Prim.Native.Nat.{ℕ, ◌+◌, ◌≤◌, ◌<◌}
use mathlib.Core.{Bool.{Bool, true, false, ◌&&◌}, Logic.◌≢◌, Path.{◌≡◌, refl, sym, ap, ap₂, ◌∙◌}}
use native.Mathlib.Omega.{arith}
use borrow.Author.Tests.{eq-eqb, ne_eqb}
use lib.{Dec.{T, eqb, eqb→eq}, ListN.length}
use Rattle.records.specs.{Phone.{Seen, Trust, no_certificate}, declared.Certificate.Certificate}
use Rattle.bits.specs.Bits.{set_bit}
use Rattle.bits.proofs.WordLaws.{Built, built_skips, built_takes, built_all}
use Rattle.rules.specs.Chains.{valid_root, trusted_root, link}
use Rattle.laws.proofs.Tests.{tests}
use Rattle.chain.specs.SlotWords.{slot, within_domain, SortedAs}

-- a link is issued, and no root
pub unrooted : (s : Seen) (c : Certificate) → T (link s c) → trusted_root s c ≡ false
unfolding link trusted_root valid_root
unrooted s c h =
    let a : T (eqb c.kind 1) = search tests in
    let e = eqb→eq c.kind 1 a in
    rw (ne_eqb c.kind 0 (λ z. omega (arith, e, z)))

unlinked : (s : Seen) (c : Certificate) → trusted_root s c ≡ true → link s c ≡ false
unlinked s c h = go (link s c) (trusted_root s c) (unrooted s c) h
  where
    go : (a b : Bool) → (T a → b ≡ false) → b ≡ true → a ≡ false
    go true b f e = sym e ∙ f tt
    go false b f e = refl

none : (b : Bool) → (b && false) ≡ false
none true = refl
none false = refl

module _ (t : Trust) (d : ℕ) where
  abbrev mine : (Certificate → Bool) → Certificate → Bool
  mine f c = f c && eqb c.domain d

  -- the slots before i are sorted: k and n are words
  pub record Sorting (k n i : ℕ) : Type 0 where
    pub roots : Built (mine (trusted_root t.seen)) t.certificates k i
    pub links : Built (mine (link t.seen)) t.certificates n i

  pub sort_end : {k n i : ℕ} → Sorting k n i → length t.certificates ≤ i → SortedAs t d (record { roots = k; links = n })
  unfolding within_domain
  sort_end s h = record { roots = built_all _ _ s.roots h; links = built_all _ _ s.links h }

  module _ {k n i : ℕ} (s : Sorting k n i) (h : i < length t.certificates) {c : Certificate} (q : c ≡ slot t i) where
    -- slot i, by what was read of it
    here : (f : Certificate → Bool) (a b : Bool) → f c ≡ a → eqb c.domain d ≡ b → mine f (slot t i) ≡ (a && b)
    here f a b e g = ap (mine f) (sym q) ∙ ap₂ (λ x y. x && y) e g

    pub sort_other : c.domain ≢ d → Sorting k n (i + 1)
    sort_other z =
        record {
          roots = built_skips _ _ no_certificate s.roots h (passed (trusted_root t.seen));
          links = built_skips _ _ no_certificate s.links h (passed (link t.seen));
        }
      where
        passed : (f : Certificate → Bool) → mine f (slot t i) ≡ false
        passed f = here f (f c) false refl (ne_eqb c.domain d z) ∙ none (f c)

    module _ (z : c.domain ≡ d) {b : Bool} (g : b ≡ trusted_root t.seen c) where
      own : (f : Certificate → Bool) (a : Bool) → f c ≡ a → mine f (slot t i) ≡ (a && true)
      own f a e = here f a true e (eq-eqb c.domain d z)

      pub sort_root : b ≡ true → {u : ℕ} → u ≡ set_bit k i → Sorting u n (i + 1)
      sort_root y j =
          record {
            roots = built_takes _ _ no_certificate s.roots h (own (trusted_root t.seen) true (sym g ∙ y)) j;
            links = built_skips _ _ no_certificate s.links h (own (link t.seen) false (unlinked t.seen c (sym g ∙ y)));
          }

      module _ (y : b ≡ false) {l : Bool} (f : l ≡ link t.seen c) where
        rootless : Built (mine (trusted_root t.seen)) t.certificates k (i + 1)
        rootless = built_skips _ _ no_certificate s.roots h (own (trusted_root t.seen) false (sym g ∙ y))

        pub sort_unlinked : l ≡ false → Sorting k n (i + 1)
        sort_unlinked x =
            record { roots = rootless; links = built_skips _ _ no_certificate s.links h (own (link t.seen) false (sym f ∙ x)) }

        pub sort_link : l ≡ true → {u : ℕ} → u ≡ set_bit n i → Sorting k u (i + 1)
        sort_link x j =
            record { roots = rootless; links = built_takes _ _ no_certificate s.links h (own (link t.seen) true (sym f ∙ x)) j }
