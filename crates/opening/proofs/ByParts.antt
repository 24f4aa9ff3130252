-- A rule's answer by its parts, in the order of the code. Assumes nothing.
use Prim.Native.Nat.{ℕ}
use mathlib.Core.{Bool.{Bool, true, false, cond, not, ◌&&◌, ◌||◌, true≢false, false≢true}, List.List, Logic.◌≢◌, Path.{◌≡◌, refl, sym, ap, ap₂, ◌∙◌, subst}}
use Rattle.std.specs.Prelude.{Option, Some, None, MatchOption, IsSomeAnd, Result, Ok, Err, is_err}
use borrow.Author.Tests.{ne_eqb, not-true}
use lib.{Dec.{eqb}}
use Rattle.records.specs.{Phone.{Seen, Phone}, declared.Certificate.Certificate, declared.Card.Card}
use Rattle.rules.specs.{Words.{◌implies◌, all}, declared.Site.Site, declared.Fault.Fault, Effects.on_a_card}
use Rattle.rules.specs.ImageRules.{card_owns, operator_of, valid_in, known_place, cards_fit, present_known, places_known, i3}
use Rattle.rules.specs.{Parts.{apart, i5_with}, Faults.{lowest, i3_site, at_rule}}
use Rattle.laws.proofs.{Tests.{eq→eqb, or_i, eqb_turn}, Lists.all_in, Accepts.T_true}
use Rattle.laws.proofs.{RulesGrow.i5_spares}
use Rattle.sweep.specs.LowestBroken.{broken_at}
use Rattle.opening.specs.Opened.{kept_or, kept_unless}

-- ---- if the first, then the second

pub implied : {y : Bool} (a b : Bool) → a ≡ true → y ≡ b → y ≡ (a implies b)
unfolding ◌implies◌
implied a b h e = rw h e

pub spared : (a b : Bool) → a ≡ false → true ≡ (a implies b)
unfolding ◌implies◌
spared a b h = rw h

-- ---- the owner of a card's operator root, which I4 asks of no other record

pub card_owned : (cards : List Card) (c : Certificate) {x : Bool} {n : ℕ} → x ≡ on_a_card c → x ≡ true
    → n ≡ operator_of cards c.place → eqb c.owner n ≡ card_owns cards c
unfolding card_owns on_a_card
card_owned cards c t h e = implied _ _ (sym t ∙ h) (ap (eqb c.owner) e)

pub not_asked : (cards : List Card) (c : Certificate) {x : Bool} → x ≡ on_a_card c → x ≡ false → true ≡ card_owns cards c
unfolding card_owns on_a_card
not_asked cards c t h = spared _ _ (sym t ∙ h)

-- ---- numbers apart: 0 is apart from all, and another from those that it is not

pub zero_apart : {A : Type 0} (f : A → ℕ) (n : ℕ) (l : List A) → n ≡ 0 → true ≡ all (λ y. apart n (f y)) l
zero_apart f n l z = sym (T_true _ (all_in (λ y. apart n (f y)) l (λ y m. or_i (eqb n 0) (not (eqb n (f y))) (eq→eqb n 0 z))))

pub not_apart : (n m k : ℕ) {b : Bool} → k ≡ n → k ≢ 0 → b ≡ eqb m k → b ≡ not (apart n m)
not_apart n m k q z e = rw (sym q, ne_eqb k 0 z) (e ∙ eqb_turn m k ∙ twice (eqb k m))
  where
    twice : (b : Bool) → b ≡ not (not b)
    twice true = refl
    twice false = refl

-- I5 asks nothing of e, which was read as c
pub i5_spared : (cards : List Card) (s : Seen) (l : List Certificate) {c e : Certificate} {x : Bool} → c ≡ e
    → x ≡ (valid_in 1 s.clock c || valid_in 2 s.clock c) → not x ≡ true → true ≡ i5_with cards s l e
i5_spared cards s l {c} {e} {x} q t n =
    i5_spares cards s e (ap (λ y. valid_in 1 s.clock y || valid_in 2 s.clock y) (sym q) ∙ sym t ∙ not-true x n) l

-- ---- what is told of a rule: that its lowest record breaks it, or that it is kept

-- a record i is told as the site `to i`, by a step that gives m for o, and r for m
pub told_at : {A : Type 0} (rule : List A → Bool) (l : List A) (n : ℕ) (to : ℕ → Site) {o : Option ℕ} (m : Option Site) {r : Result Unit Fault}
    {gives : ℕ → Site → Type 0} → o ≡ broken_at rule l → MatchOption o (m ≡ None) (λ i. IsSomeAnd m (gives i))
    → ((i : ℕ) (site : Site) → gives i site → site ≡ to i) → r ≡ kept_unless n m → r ≡ kept_or (rule l) (at_rule n (to (lowest rule l)))
unfolding broken_at
told_at rule l n to {o} m {r} {gives} e c h q = go (rule l) e
  where
    site_told : (i : ℕ) (m : Option Site) → IsSomeAnd m (gives i) → kept_unless n m ≡ Err (at_rule n (to i))
    site_told i (Some site) g = ap (λ site. Err (at_rule n site)) (h i site g)
    site_told i None g = absurd g

    go : (b : Bool) → o ≡ cond b None (Some (lowest rule l)) → r ≡ kept_or b (at_rule n (to (lowest rule l)))
    go true e = q ∙ ap (kept_unless n) (subst (λ o. MatchOption o (m ≡ None) (λ i. IsSomeAnd m (gives i))) e c)
    go false e = q ∙ site_told (lowest rule l) m (subst (λ o. MatchOption o (m ≡ None) (λ i. IsSomeAnd m (gives i))) e c)

-- what q told of a rule is passed on as it is, or the rule is kept
pub keeps : {b : Bool} (f : Fault) {q : Result Unit Fault} {x : Unit {0}} → q ≡ kept_or b f → q ≡ Ok x → b ≡ true
keeps {b} f {q} {x} e o = go b e
  where
    go : (b : Bool) → q ≡ kept_or b f → b ≡ true
    go true e = refl
    go false e = absurd (true≢false (ap is_err (sym e ∙ o)))

pub breaks : {b : Bool} {f g : Fault} {q : Result Unit Fault} → q ≡ kept_or b f → q ≡ Err g → (b ≡ false) × (q ≡ Err f)
breaks {b} {f} {g} {q} e o = go b e
  where
    go : (b : Bool) → q ≡ kept_or b f → (b ≡ false) × (q ≡ Err f)
    go true e = absurd (false≢true (ap is_err (sym e ∙ o)))
    go false e = (refl, e)

-- ---- I3: the card present, the places, then the cards

module _ (p : Phone) where
  abbrev cards : Bool
  cards = cards_fit p.cards

  abbrev places : Bool
  places = places_known p.cards p.trust.certificates

  abbrev at_place : Fault
  at_place = at_rule 3 (Site.Certificate (lowest (places_known p.cards) p.trust.certificates))

  abbrev at_card : Fault
  at_card = at_rule 3 (Site.Card (lowest cards_fit p.cards))

  -- by whether the cards fit, the card present is known, and the places are
  abbrev third : Bool → Bool → Bool → Result Unit Fault
  third a b c = kept_or ((a && b) && c) (at_rule 3 (cond (not b) (Site.Header 12) (cond (not c) at_place.site at_card.site)))

  no_present : (a b : Bool) → Err (at_rule 3 (Site.Header 12)) ≡ third a false b
  no_present true b = refl
  no_present false b = refl

  no_place : (b : Bool) → Err at_place ≡ third b true false
  no_place true = refl
  no_place false = refl

  cards_left : (b : Bool) → kept_or b at_card ≡ third b true true
  cards_left true = refl
  cards_left false = refl

  -- n is the card present, and b whether it is known
  module _ {n : ℕ} {b : Bool} (present : n ≡ p.trust.seen.card) (known : b ≡ known_place p.cards n) where
    whether : b ≡ present_known p
    whether = known ∙ ap (known_place p.cards) present

    pub i3_present : b ≡ false → {r : Result Unit Fault} → r ≡ Err (at_rule 3 (Site.Header 12)) → r ≡ kept_or (i3 p) (at_rule 3 (i3_site p))
    unfolding i3 i3_site
    i3_present z o = o ∙ no_present cards places ∙ ap (λ b. third cards b places) (sym z ∙ whether)

    -- q is what is told of the places
    module _ (yes : b ≡ true) {q r : Result Unit Fault} (placed : q ≡ kept_or places at_place) where
      pub i3_places : {f : Fault} → q ≡ Err f → r ≡ q → r ≡ kept_or (i3 p) (at_rule 3 (i3_site p))
      unfolding i3 i3_site
      i3_places o t = let k = breaks placed o in t ∙ k.1 ∙ no_place cards ∙ ap₂ (third cards) (sym yes ∙ whether) (sym k.0)

      pub i3_cards : {x : Unit {0}} → q ≡ Ok x → r ≡ kept_or cards at_card → r ≡ kept_or (i3 p) (at_rule 3 (i3_site p))
      unfolding i3 i3_site
      i3_cards o t = t ∙ cards_left cards ∙ ap₂ (third cards) (sym yes ∙ whether) (sym (keeps at_place placed o))
