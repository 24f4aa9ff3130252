-- 02, item 1: what the fault of an image is worth. Assumes nothing.
use Prim.Native.Nat.{ℕ, zero, suc, ◌+◌, ◌≤◌, ◌<◌}
use mathlib.Core.{Bool.{Bool, true, false, cond, not, ◌&&◌, true≢false, and_assoc, and-true}, List.{List, [], ◌∷◌, ◌++◌}, Logic.{◌≢◌, inl, inr}}
use mathlib.Core.Path.{◌≡◌, refl, sym, ap, ap₂, ◌∙◌, subst}
use native.{Mathlib.Nat.zero-add, Mathlib.Omega.arith, Mathlib.Decide.dec_lt}
use borrow.Author.Tests.{eq-eqb, ne_eqb, le-leb, lt-leb, le-ltb}
use lib.{Dec.{T, eqb, leb, leb→le, eqb→eq}, ListN.{length, get_or}}
use Rattle.records.specs.{Sizes.{header_size, largest_image}, Layout.{certificate_read, card_read, executable_read, row_read}}
use Rattle.records.specs.Phone.{Phone, decode, no_certificate, no_card, no_executable, no_row, certificate_at, card_at, executable_at, row_at}
use Rattle.records.specs.Frame.{Field, ◌right_if◌, header_fits, framed, header_fields, total_byte, first_wrong, header_fault}
use Rattle.records.proofs.{Wrong.too_short, Joined.get_or_tabulate}
use Rattle.records.proofs.Said.{length_certificates, length_cards, length_executables, length_table, certificate_said}
use Rattle.records.proofs.FrameFacts.{fields}
use Rattle.rules.specs.{declared.Site.Site, declared.Fault.Fault, Words.{all, Check, ◌⇒◌, first}, Step.{refused_at, answer_done, opened}}
use Rattle.rules.specs.ImageRules.{i2, i3, i4, i5, i6, i7, i8, broken, accepted, row_fits, cards_fit, present_known, places_known}
use Rattle.rules.specs.Faults.{lowest, of_certificates, of_executables, i3_site, sites, at_rule, no_fault, fault, offset_of, fault_offset}
use Rattle.rules.specs.FaultNames.{rules, is_right, i1_fields, WrongField, LowestAt, WrongCard, Within}
use Rattle.laws.proofs.{Tests.{and_l, and_r}, Accepts.true_T, Lowest.{Grows, lowest_below, lowest_with, lowest_told}, More.all_grows}
use Rattle.laws.proofs.RulesGrow.{i2_grows, i4_grows, i5_grows, i7_grows, i8_grows, cards_grow, places_grow}

-- ---- no fault exactly if accepted

module _ (l : List ℕ) where
  pub accepted_no_fault : accepted l ≡ true → fault l ≡ no_fault
  unfolding accepted fault
  accepted_no_fault h = rw (eqb→eq (broken l) 0 (true_T (eqb (broken l) 0) h))

  pub no_fault_accepted : (fault l).rule ≡ 0 → accepted l ≡ true
  unfolding accepted fault
  no_fault_accepted e = eq-eqb (broken l) 0 e

  pub opened_whole : accepted l ≡ true → opened l ≡ answer_done 0 0
  unfolding opened
  opened_whole e = rw e refl

  module _ {f : Fault} (e : f ≡ fault l) (h : f.rule ≢ 0) where
    pub fault_refused : accepted l ≡ false
    unfolding accepted fault
    fault_refused = ne_eqb (broken l) 0 (λ z. h (ap (λ f. f.rule) e ∙ z))

    pub opened_broken : opened l ≡ refused_at l
    unfolding opened
    opened_broken = rw fault_refused refl

-- ---- the rules before the named one hold, and that one does not

-- tests numbered from k on
abbrev numbered : List Bool → ℕ → List Check
numbered [] k = []
numbered (b ∷ bs) k = (not b ⇒ k) ∷ numbered bs (suc k)

at_least : (bs : List Bool) (k m : ℕ) → first (numbered bs (suc k)) ≡ suc m → k ≤ m
unfolding first
at_least [] k m e = absurd (omega arith)
at_least (false ∷ bs) k m e = omega arith
at_least (true ∷ bs) k m e = let h = at_least bs (suc k) m e in omega arith

named : (bs : List Bool) (k n : ℕ) → first (numbered bs (suc k)) ≡ suc (k + n) → (get_or bs n true ≡ false) × ((j : ℕ) → j < n → get_or bs j false ≡ true)
unfolding first
named [] k n e = absurd (omega arith)
named (false ∷ bs) k zero e = (refl, λ j h. let z : ⊥ = omega arith in absurd z)
named (false ∷ bs) k (suc n) e = absurd (omega arith)
named (true ∷ bs) k zero e = let h = at_least bs (suc k) (k + 0) e in absurd (omega arith)
named (true ∷ bs) k (suc n) e = go (named bs (suc k) n (e ∙ again))
  where
    again : suc (k + suc n) ≡ suc (suc k + n)
    again = omega arith

    go : (get_or bs n true ≡ false) × ((j : ℕ) → j < n → get_or bs j false ≡ true)
        → (get_or bs n true ≡ false) × ((j : ℕ) → j < suc n → get_or (true ∷ bs) j false ≡ true)
    go r = (r.0, below)
      where
        below : (j : ℕ) → j < suc n → get_or (true ∷ bs) j false ≡ true
        below zero h = refl
        below (suc j) h = r.1 j (omega arith)

module _ (l : List ℕ) where
  pub fault_first : (n : ℕ) → (fault l).rule ≡ suc n → (get_or (rules l) n true ≡ false) × ((k : ℕ) → k < n → get_or (rules l) k false ≡ true)
  unfolding fault broken
  fault_first n e = named (rules l) 0 n (e ∙ ap suc (sym (zero-add n)))

-- ---- a field that is named lies in the header

abbrev byte_of : Field → ℕ
byte_of (n right_if b) = n

first_wrong_small : (fs : List Field) (last : ℕ) → T (all (λ f. leb (byte_of f) header_size) fs) → last ≤ header_size → first_wrong fs last ≤ header_size
unfolding first_wrong all
first_wrong_small [] last h k = k
first_wrong_small ((n right_if b) ∷ fs) last h k =
    go b (first_wrong_small fs last (and_r (leb n header_size) (all (λ f. leb (byte_of f) header_size) fs) h) k)
  where
    go : (b : Bool) {m : ℕ} → m ≤ header_size → cond b m n ≤ header_size
    go true e = e
    go false e = leb→le n header_size (and_l (leb n header_size) (all (λ f. leb (byte_of f) header_size) fs) h)

-- ---- the records below the named one keep the rule, and with it they break it

module _ {A : Type 0} {rule : List A → Bool} {more : List A → A → Bool} (g : Grows rule more) (d : A) (l : List A) where
  in_range : rule l ≡ false → lowest rule l < length l
  in_range e = elim (dec_lt (lowest rule l) (length l)) [
    | yes h ↦ h
    | no h ↦ absurd (subst T (sym (ap not e) ∙ sym (lowest_told g d l) ∙ le-ltb (lowest rule l) (length l) (omega arith)) tt)
  ]

  lowest_at : (place : ℕ → Site) {s : Site} → rule l ≡ false → s ≡ place (lowest rule l) → LowestAt rule l place s
  lowest_at place e q =
      record { number = lowest rule l; record_there = in_range e; stands = q; below = lowest_below g d l; with_it = lowest_with g d l (in_range e) }

module _ (l : List ℕ) where
  abbrev p : Phone
  p = decode l

  at_site : (n : ℕ) → (fault l).rule ≡ n → (fault l).site ≡ get_or (sites l) n (Site.Header 0)
  unfolding fault
  at_site n e = ap (λ k. get_or (sites l) k (Site.Header 0)) e

  pub wrong_i1 : (fault l).rule ≡ 1 → (fault l).site ≡ Site.Header (header_fault l)
  wrong_i1 e = at_site 1 e

  pub wrong_i2 : (fault l).rule ≡ 2 → LowestAt (of_certificates i2 p) p.trust.certificates Site.Certificate (fault l).site
  wrong_i2 e = lowest_at (i2_grows p) no_certificate p.trust.certificates Site.Certificate (fault_first l 1 e).0 (at_site 2 e)

  by_parts : {s : Site} (a b d : Bool) → present_known p ≡ a → places_known p.cards p.trust.certificates ≡ b → cards_fit p.cards ≡ d
      → ((d && a) && b) ≡ false
      → s ≡ cond (not a) (Site.Header 12)
      (cond (not b) (Site.Certificate (lowest (places_known p.cards) p.trust.certificates)) (Site.Card (lowest cards_fit p.cards)))
      → WrongCard l s
  by_parts false b d ea eb ed f q = inl (ea, q)
  by_parts true false d ea eb ed f q = inr (inl (lowest_at (places_grow p.cards) no_certificate p.trust.certificates Site.Certificate eb q))
  by_parts true true false ea eb ed f q = inr (inr (lowest_at cards_grow no_card p.cards Site.Card ed q))
  by_parts true true true ea eb ed f q = absurd (true≢false f)

  wrong_card : {s : Site} → i3 p ≡ false → s ≡ i3_site p → WrongCard l s
  unfolding i3 i3_site cards_fit
  wrong_card f q = by_parts _ _ _ refl refl refl f q

  pub wrong_i3 : (fault l).rule ≡ 3 → WrongCard l (fault l).site
  wrong_i3 e = wrong_card (fault_first l 2 e).0 (at_site 3 e)

  pub wrong_i4 : (fault l).rule ≡ 4 → LowestAt (of_certificates i4 p) p.trust.certificates Site.Certificate (fault l).site
  wrong_i4 e = lowest_at (i4_grows p) no_certificate p.trust.certificates Site.Certificate (fault_first l 3 e).0 (at_site 4 e)

  pub wrong_i5 : (fault l).rule ≡ 5 → LowestAt (of_certificates i5 p) p.trust.certificates Site.Certificate (fault l).site
  wrong_i5 e = lowest_at (i5_grows p) no_certificate p.trust.certificates Site.Certificate (fault_first l 4 e).0 (at_site 5 e)

  pub wrong_i6 : (fault l).rule ≡ 6 → LowestAt (all row_fits) p.table Site.Row (fault l).site
  unfolding i6
  wrong_i6 e = lowest_at (all_grows row_fits) no_row p.table Site.Row (fault_first l 5 e).0 (at_site 6 e)

  pub wrong_i7 : (fault l).rule ≡ 7 → LowestAt (of_executables i7 p) p.executables Site.Executable (fault l).site
  wrong_i7 e = lowest_at (i7_grows p) no_executable p.executables Site.Executable (fault_first l 6 e).0 (at_site 7 e)

  pub wrong_i8 : (fault l).rule ≡ 8 → LowestAt (of_executables i8 p) p.executables Site.Executable (fault l).site
  wrong_i8 e = lowest_at (i8_grows p) no_executable p.executables Site.Executable (fault_first l 7 e).0 (at_site 8 e)

  -- ---- what is named is there: a byte of the header or its end, or a record of a framed image

  within_card : framed l ≡ true → {s : Site} → WrongCard l s → Within l s
  within_card k (inl (e, q)) = subst (Within l) (sym q) (omega arith)
  within_card k (inr (inl w)) = subst (Within l) (sym w.stands) (k, w.record_there)
  within_card k (inr (inr w)) = subst (Within l) (sym w.stands) (k, w.record_there)

  long : header_size ≤ length l → header_fault l ≡ first_wrong (header_fields l) total_byte
  unfolding header_fault
  long h = rw (le-leb header_size (length l) h)

  fields_within : first_wrong (header_fields l) total_byte ≤ header_size
  unfolding all
  fields_within = first_wrong_small (header_fields l) total_byte tt (omega arith)

  header_within : header_fault l ≤ header_size
  header_within = elim (dec_lt (length l) header_size) [
    | yes h ↦ subst (λ n. n ≤ header_size) (too_short l h) (omega arith)
    | no h ↦ subst (λ n. n ≤ header_size) (sym (long (omega arith))) fields_within
  ]

  -- the first of the rules that is broken, by what each of them gives
  abbrev first_broken : Bool → Bool → Bool → Bool → Bool → Bool → Bool → Bool → ℕ
  first_broken b1 b2 b3 b4 b5 b6 b7 b8 =
      first ((not b1 ⇒ 1) ∷ (not b2 ⇒ 2) ∷ (not b3 ⇒ 3) ∷ (not b4 ⇒ 4) ∷ (not b5 ⇒ 5) ∷ (not b6 ⇒ 6) ∷ (not b7 ⇒ 7) ∷ (not b8 ⇒ 8) ∷ [])

  pub fault_within : Within l (fault l).site
  unfolding fault broken first i6
  fault_within = go (framed l) (i2 p) (i3 p) (i4 p) (i5 p) (i6 p) (i7 p) (i8 p) refl refl refl refl refl refl refl refl
    where
      go : (b1 b2 b3 b4 b5 b6 b7 b8 : Bool) → framed l ≡ b1 → i2 p ≡ b2 → i3 p ≡ b3 → i4 p ≡ b4 → i5 p ≡ b5 → i6 p ≡ b6 → i7 p ≡ b7 → i8 p ≡ b8
          → Within l (get_or (sites l) (first_broken b1 b2 b3 b4 b5 b6 b7 b8) (Site.Header 0))
      go false b2 b3 b4 b5 b6 b7 b8 e1 e2 e3 e4 e5 e6 e7 e8 = header_within
      go true false b3 b4 b5 b6 b7 b8 e1 e2 e3 e4 e5 e6 e7 e8 = (e1, in_range (i2_grows p) no_certificate p.trust.certificates e2)
      go true true false b4 b5 b6 b7 b8 e1 e2 e3 e4 e5 e6 e7 e8 = within_card e1 (wrong_card e3 refl)
      go true true true false b5 b6 b7 b8 e1 e2 e3 e4 e5 e6 e7 e8 = (e1, in_range (i4_grows p) no_certificate p.trust.certificates e4)
      go true true true true false b6 b7 b8 e1 e2 e3 e4 e5 e6 e7 e8 = (e1, in_range (i5_grows p) no_certificate p.trust.certificates e5)
      go true true true true true false b7 b8 e1 e2 e3 e4 e5 e6 e7 e8 = (e1, in_range (all_grows row_fits) no_row p.table e6)
      go true true true true true true false b8 e1 e2 e3 e4 e5 e6 e7 e8 = (e1, in_range (i7_grows p) no_executable p.executables e7)
      go true true true true true true true false e1 e2 e3 e4 e5 e6 e7 e8 = (e1, in_range (i8_grows p) no_executable p.executables e8)
      go true true true true true true true true e1 e2 e3 e4 e5 e6 e7 e8 = omega arith

-- ---- the first wrong field of a header

first_is_wrong : (fs : List Field) (last : ℕ) (b : Bool) → all is_right (fs ++ ((last right_if b) ∷ [])) ≡ false
    → WrongField (fs ++ ((last right_if b) ∷ [])) (first_wrong fs last)
unfolding all first_wrong
first_is_wrong [] last false e = record { before = []; after = []; stands = refl; right_before = refl }
first_is_wrong [] last true e = absurd (true≢false e)
first_is_wrong ((n right_if false) ∷ fs) last b e = record { before = []; after = fs ++ ((last right_if b) ∷ []); stands = refl; right_before = refl }
first_is_wrong ((n right_if true) ∷ fs) last b e =
    let w = first_is_wrong fs last b e in
    record { before = (n right_if true) ∷ w.before; after = w.after; stands = ap (λ gs. (n right_if true) ∷ gs) w.stands; right_before = w.right_before }

module _ (l : List ℕ) where
  -- they are all that I1 asks of a header
  pub right_fields : header_size ≤ length l → framed l ≡ all is_right (i1_fields l)
  unfolding framed header_fits all
  right_fields h = rw (le-leb header_size (length l) h) (simp (and_assoc, and-true))

  -- "for I1 the first header byte of the first wrong field"
  pub wrong_field : framed l ≡ false → header_size ≤ length l → WrongField (i1_fields l) (header_fault l)
  wrong_field e h = subst (WrongField (i1_fields l)) (sym (long l h)) (first_is_wrong (header_fields l) total_byte _ (sym (right_fields h) ∙ e))

  -- "A buffer shorter than 40 bytes gives rule 1 and its length."
  pub short_buffer : length l < header_size → fault l ≡ at_rule 1 (Site.Header (length l))
  unfolding fault broken first framed
  short_buffer h = rw (lt-leb header_size (length l) h) (ap (λ n. at_rule 1 (Site.Header n)) (sym (too_short l h)))

-- ---- I3: the card present, then the places of the certificates, then the cards

module _ (l : List ℕ) (e : (fault l).rule ≡ 3) where
  -- "For card present missing from the table, I3 names byte 12 before any record."
  pub present_first : present_known (decode l) ≡ false → (fault l).site ≡ Site.Header 12
  unfolding i3_site
  present_first a = at_site l 3 e ∙ rw a refl

  module _ (a : present_known (decode l) ≡ true) where
    pub places_next : places_known (decode l).cards (decode l).trust.certificates ≡ false
        → LowestAt (places_known (decode l).cards) (decode l).trust.certificates Site.Certificate (fault l).site
    unfolding i3_site
    places_next b = lowest_at (places_grow (decode l).cards) no_certificate _ Site.Certificate b (at_site l 3 e ∙ rw (a, b) refl)

    pub cards_last : places_known (decode l).cards (decode l).trust.certificates ≡ true
        → LowestAt cards_fit (decode l).cards Site.Card (fault l).site
    unfolding i3 i3_site cards_fit
    cards_last b = lowest_at cards_grow no_card _ Site.Card (left _ a b (fault_first l 2 e).0) (at_site l 3 e ∙ rw (a, b) refl)
      where
        left : (d : Bool) {a b : Bool} → a ≡ true → b ≡ true → ((d && a) && b) ≡ false → d ≡ false
        left false a b f = refl
        left true a b f = absurd (true≢false (sym (ap₂ ◌&&◌ a b) ∙ f))

-- ---- the first byte of the record: what is named is read from the byte that is told

module _ (l : List ℕ) where
  pub certificate_begins : (i : ℕ) → i < length (decode l).trust.certificates
      → certificate_at (decode l) i ≡ certificate_read l (offset_of (decode l) (Site.Certificate i))
  certificate_begins i h = sym (certificate_said l i h)

  pub card_begins : (i : ℕ) → i < length (decode l).cards → card_at (decode l) i ≡ card_read l (offset_of (decode l) (Site.Card i))
  unfolding decode
  card_begins i h = rw (length_certificates l) (get_or_tabulate _ _ no_card i (rw (length_cards l) at h))

  pub executable_begins : (i : ℕ) → i < length (decode l).executables
      → executable_at (decode l) i ≡ executable_read l (offset_of (decode l) (Site.Executable i))
  unfolding decode
  executable_begins i h = rw (length_certificates l, length_cards l) (get_or_tabulate _ _ no_executable i (rw (length_executables l) at h))

  pub row_begins : (i : ℕ) → i < length (decode l).table → row_at (decode l) i ≡ row_read l (offset_of (decode l) (Site.Row i))
  unfolding decode
  row_begins i h = rw (length_certificates l, length_cards l, length_executables l) (get_or_tabulate _ _ no_row i (rw (length_table l) at h))

-- ---- how large what is told is

first_small : (bs : List Bool) (k : ℕ) → first (numbered bs (suc k)) ≤ k + length bs
unfolding first
first_small [] k = omega arith
first_small (false ∷ bs) k = omega arith
first_small (true ∷ bs) k = let h = first_small bs (suc k) in omega arith

module _ (l : List ℕ) where
  -- "the first broken rule, 1 to 8"
  pub rule_known : (fault l).rule ≤ 8
  unfolding fault broken
  rule_known = first_small (rules l) 0

  site_small : (s : Site) → Within l s → offset_of (decode l) s < largest_image
  site_small (Site.Header n) h = omega arith
  site_small (Site.Certificate i) (k, h) = let f = fields l k in omega (arith, length_certificates l)
  site_small (Site.Card i) (k, h) = let f = fields l k in omega (arith, length_certificates l, length_cards l)
  site_small (Site.Executable i) (k, h) = let f = fields l k in omega (arith, length_certificates l, length_cards l, length_executables l)
  site_small (Site.Row i) (k, h) = let f = fields l k in omega (arith, length_certificates l, length_cards l, length_executables l, length_table l)

  -- two bytes hold it
  pub offset_small : fault_offset l < 65536
  offset_small = let h = site_small (fault l).site (fault_within l) in omega arith
