-- The image rules as tests say what they say as propositions, for a phone and for bytes. Assumes nothing.
use Prim.Native.Nat.{ℕ}
use mathlib.Core.{Bool.{Bool, true, false, not}, List.{List, ◌∷◌}, Logic.{◌≢◌, ◌⊎◌, inl, inr}, Path.{◌≡◌, refl, subst, sym}}
use lib.{Dec.{T, eqb, eqb→eq}, ListN.length}
use Rattle.records.specs.{Phone.{Seen, Trust, Phone, decode}, Frame.framed, declared.Certificate.Certificate, declared.Executable.Executable}
use Rattle.rules.specs.{Words.{all, all_pairs, Check, ◌⇒◌}, Chains.chains_to}
use Rattle.rules.specs.ImageRules.{slot_fits, card_fits, known_place, places_known, key_of_one_domain, card_owns, one_in_place, not_both, owned_by_card}
use Rattle.rules.specs.ImageRules.{one_manufacturer, row_fits, executable_slot_fits, chained_fits, i1, i2, i3, i4, i5, i6, i7, i8, cards_fit, phone_rules}
use Rattle.rules.specs.ImageRules.{broken, accepted}
use Rattle.laws.proofs.Tests.{tests, neqb→ne, and_i, or_j, or_cases, by_test, not_elim, not_intro, Passes, first_out, first_in}
use Rattle.laws.proofs.{Lists.{all_out, all_in, pairs_out, pairs_in}, Accepted.{Held, Single, Yielding, Kept, Accepted}}
use Rattle.laws.proofs.Fits.{slot_out, slot_in, named_out, named_in, executable_out, executable_in}
use Rattle.laws.proofs.Pairs.{key_out, key_in, owns_out, owns_in, in_place_out, in_place_in, not_both_out, not_both_in, owned_out, owned_in}
use Rattle.laws.proofs.Pairs.{manufacturer_out, manufacturer_in}

-- the tests of a phone
pub record Ruled (p : Phone) : Type 0 where
  pub i2 : T (i2 p)
  pub i3 : T (i3 p)
  pub i4 : T (i4 p)
  pub i5 : T (i5 p)
  pub i6 : T (i6 p)
  pub i7 : T (i7 p)
  pub i8 : T (i8 p)

-- ---- from the tests

held_out : (p : Phone) → Ruled p → Held p.cards p.trust.certificates
unfolding i2 i3 i4 cards_fit
held_out p r =
    let l = p.trust.certificates in
    let h3 = r.i3 in
    let h4 = r.i4 in
    record {
      slots = λ c m. slot_out c (all_out slot_fits l r.i2 c m);
      places = all_out (λ c. known_place p.cards c.place) l (search tests);
      ids = search tests;
      keys = λ c e m n. key_out c e (pairs_out key_of_one_domain l (search tests) c e m n);
      owners = λ c m. owns_out p.cards c (all_out (card_owns p.cards) l (search tests) c m);
    }

single_out : (p : Phone) → T (i5 p) → Single p.trust.seen.clock p.trust.certificates
unfolding i5
single_out p h =
    let l = p.trust.certificates in
    let t = p.trust.seen.clock in
    record {
      one_each = λ c e m n. in_place_out t c e (pairs_out (one_in_place t) l (search tests) c e m n);
      one_maker = λ c e m n. manufacturer_out t c e (pairs_out (one_manufacturer t) l (search tests) c e m n);
    }

yielding_out : (p : Phone) → T (i5 p) → Yielding p.cards p.trust.seen p.trust.certificates
unfolding i5
yielding_out p h =
    let l = p.trust.certificates in
    let s = p.trust.seen in
    record {
      not_both = λ c e m n. not_both_out s c e (pairs_out (not_both s) l (search tests) c e m n);
      mine = λ c m. owned_out p.cards s c (all_out (owned_by_card p.cards s) l (search tests) c m);
    }

-- I8, of one executable
pub chained_out : (t : Trust) (x : Executable) → T (chained_fits t x) → x.domain ≢ 0 → T (chains_to t x.signing x.domain)
chained_out t x h nz = go (or_cases (eqb x.domain 0) (chains_to t x.signing x.domain) h)
  where
    go : T (eqb x.domain 0) ⊎ T (chains_to t x.signing x.domain) → T (chains_to t x.signing x.domain)
    go (inl z) = absurd (nz (eqb→eq x.domain 0 z))
    go (inr z) = z

accepts_out : (p : Phone) → Ruled p → Accepted p
unfolding i3 i6 i7 i8 cards_fit
accepts_out p r =
    let n = length p.table in
    let h3 = r.i3 in
    let h7 = r.i7 in
    record {
      cards = λ k m. named_out k (all_out card_fits p.cards (search tests) k m);
      numbers = search tests;
      trust = record { card = search tests; held = held_out p r; single = single_out p r.i5; yielding = yielding_out p r.i5 };
      table = all_out row_fits p.table r.i6;
      executables = λ x m. executable_out n x (all_out (executable_slot_fits n) p.executables (search tests) x m);
      ids = search tests;
      chained = λ x m. chained_out p.trust x (all_out (chained_fits p.trust) p.executables r.i8 x m);
    }

-- ---- and back

i4_in : (p : Phone) → Held p.cards p.trust.certificates → T (i4 p)
unfolding i4
i4_in p h =
    let l = p.trust.certificates in
    let k : T (all_pairs key_of_one_domain l) = pairs_in key_of_one_domain l (λ c e m n. key_in c e (h.keys c e m n)) in
    let o : T (all (card_owns p.cards) l) = all_in (card_owns p.cards) l (λ c m. owns_in p.cards c (h.owners c m)) in
    search (and_i, h.ids)

i5_in : (p : Phone) → Kept p.cards p.trust → T (i5 p)
unfolding i5
i5_in p o = search (and_i, each, both, mine, maker)
  where
    l : List Certificate
    l = p.trust.certificates

    s : Seen
    s = p.trust.seen

    each : T (all_pairs (one_in_place s.clock) l)
    each = pairs_in (one_in_place s.clock) l (λ c e m n. in_place_in s.clock c e (o.single.one_each c e m n))

    both : T (all_pairs (not_both s) l)
    both = pairs_in (not_both s) l (λ c e m n. not_both_in s c e (o.yielding.not_both c e m n))

    mine : T (all (owned_by_card p.cards s) l)
    mine = all_in (owned_by_card p.cards s) l (λ c m. owned_in p.cards s c (o.yielding.mine c m))

    maker : T (all_pairs (one_manufacturer s.clock) l)
    maker = pairs_in (one_manufacturer s.clock) l (λ c e m n. manufacturer_in s.clock c e (o.single.one_maker c e m n))

chained_in : (t : Trust) (x : Executable) → (x.domain ≢ 0 → T (chains_to t x.signing x.domain)) → T (chained_fits t x)
chained_in t x h =
    by_test (eqb x.domain 0) (λ z. search tests) (λ z. or_j (eqb x.domain 0) (chains_to t x.signing x.domain) (h (neqb→ne x.domain 0 z)))

accepts_in : (p : Phone) → Accepted p → Ruled p
unfolding i2 i3 i6 i7 i8 cards_fit
accepts_in p o =
    let l = p.trust.certificates in
    let n = length p.table in
    let c : T (all card_fits p.cards) = all_in card_fits p.cards (λ k m. named_in k (o.cards k m)) in
    let q : T (places_known p.cards l) = all_in (λ c. known_place p.cards c.place) l o.trust.held.places in
    let x : T (all (executable_slot_fits n) p.executables) =
    all_in (executable_slot_fits n) p.executables (λ x m. executable_in n x (o.executables x m)) in
    record {
      i2 = all_in slot_fits l (λ c m. slot_in c (o.trust.held.slots c m));
      i3 = search (and_i, o.numbers, o.trust.card);
      i4 = i4_in p o.trust.held;
      i5 = i5_in p o.trust;
      i6 = all_in row_fits p.table o.table;
      i7 = search (and_i, o.ids);
      i8 = all_in (chained_fits p.trust) p.executables (λ x m. chained_in p.trust x (o.chained x m));
    }

-- ---- bytes

abbrev rules_of : List ℕ → List Check
rules_of l = (not (i1 l) ⇒ 1) ∷ phone_rules (decode l)

pub T_true : (b : Bool) → T b → b ≡ true
T_true true h = refl
T_true false h = absurd h

pub true_T : (b : Bool) → b ≡ true → T b
true_T b e = subst T (sym e) tt

ruled_out : (l : List ℕ) → Passes (rules_of l) → Ruled (decode l)
ruled_out l w =
    record {
      i2 = not_elim (i2 (decode l)) w.1.0;
      i3 = not_elim (i3 (decode l)) w.1.1.0;
      i4 = not_elim (i4 (decode l)) w.1.1.1.0;
      i5 = not_elim (i5 (decode l)) w.1.1.1.1.0;
      i6 = not_elim (i6 (decode l)) w.1.1.1.1.1.0;
      i7 = not_elim (i7 (decode l)) w.1.1.1.1.1.1.0;
      i8 = not_elim (i8 (decode l)) w.1.1.1.1.1.1.1.0;
    }

ruled_in : (l : List ℕ) → T (framed l) → Ruled (decode l) → Passes (rules_of l)
ruled_in l f r = search (not_intro, f, r.i2, r.i3, r.i4, r.i5, r.i6, r.i7, r.i8) depth 12

pub accepted_out : (l : List ℕ) → accepted l ≡ true → (framed l ≡ true) × Accepted (decode l)
unfolding accepted broken
accepted_out l h =
    let w = first_out (rules_of l) tt (true_T (accepted l) h) in
    (T_true (framed l) (not_elim (framed l) w.0), accepts_out (decode l) (ruled_out l w))

pub accepted_in : (l : List ℕ) → framed l ≡ true → Accepted (decode l) → accepted l ≡ true
unfolding accepted broken
accepted_in l f a =
    T_true (accepted l) (first_in (rules_of l) (ruled_in l (true_T (framed l) f) (accepts_in (decode l) a)))
