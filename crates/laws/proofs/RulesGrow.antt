-- How each rule grows by a record, and what is known of the fault that is told. Assumes nothing.
use Prim.Native.Nat.{ℕ}
use mathlib.Core.{Bool.{Bool, true, false, cond, not, ◌&&◌, ◌||◌, true≢false, and_comm, and-true}, List.List, Logic.◌≢◌, Path.{◌≡◌, refl, sym, ap, ◌∙◌}}
use lib.{Dec.{T, eqb, ltb}, ListN.length}
use Rattle.records.specs.{Phone.{Seen, Phone}, declared.Certificate.Certificate, declared.Card.Card}
use Rattle.rules.specs.{declared.Fault.Fault, Words.{◌implies◌, all, all_pairs}}
use Rattle.rules.specs.ImageRules.{known_place, slot_fits, card_fits, cards_fit, places_known, key_of_one_domain, card_owns, valid_in, one_in_place, not_both}
use Rattle.rules.specs.ImageRules.{owned_by_card, one_manufacturer, executable_slot_fits, chained_fits, i2, i4, i5, i7, i8}
use Rattle.rules.specs.{Parts.{apart, card_with, i4_with, i5_pair, i5_with, executable_with}, Faults.{lowest, of_certificates, of_executables}}
use Rattle.laws.proofs.{Tests.same, Accepts.{T_true, true_T}, Lists.all_in}
use Rattle.laws.proofs.Pairs.{key_out, key_in, in_place_out, in_place_in, not_both_in, manufacturer_out, manufacturer_in}
use Rattle.laws.proofs.{Lowest.{Grows, both_grow, grows_as, lowest_told}, More.{all_grows, all_and, pairs_grow, even_pairs_grow, distinct_grows}}

-- ---- the tests of pairs: each certificate passes with itself, and three of the four are even

keys_grow : Grows (all_pairs key_of_one_domain) (λ l x. all (key_of_one_domain x) l)
keys_grow = even_pairs_grow key_of_one_domain self even
  where
    self : (c : Certificate) → key_of_one_domain c c ≡ true
    self c = T_true (key_of_one_domain c c) (key_in c c (λ z q. refl))

    turn : (c e : Certificate) → T (key_of_one_domain c e) → T (key_of_one_domain e c)
    turn c e h = key_in e c (λ z q. sym (key_out c e h (λ k. z (q ∙ k)) (sym q)))

    even : (c e : Certificate) → key_of_one_domain c e ≡ key_of_one_domain e c
    even c e = same (key_of_one_domain c e) (key_of_one_domain e c) (turn c e) (turn e c)

module _ (t : ℕ) where
  each_place_grows : Grows (all_pairs (one_in_place t)) (λ l x. all (one_in_place t x) l)
  each_place_grows = even_pairs_grow (one_in_place t) self even
    where
      self : (c : Certificate) → one_in_place t c c ≡ true
      self c = T_true (one_in_place t c c) (in_place_in t c c (λ v w q. refl))

      turn : (c e : Certificate) → T (one_in_place t c e) → T (one_in_place t e c)
      turn c e h = in_place_in t e c (λ v w q. sym (in_place_out t c e h w v (sym q)))

      even : (c e : Certificate) → one_in_place t c e ≡ one_in_place t e c
      even c e = same (one_in_place t c e) (one_in_place t e c) (turn c e) (turn e c)

  manufacturers_grow : Grows (all_pairs (one_manufacturer t)) (λ l x. all (one_manufacturer t x) l)
  manufacturers_grow = even_pairs_grow (one_manufacturer t) self even
    where
      self : (c : Certificate) → one_manufacturer t c c ≡ true
      self c = T_true (one_manufacturer t c c) (manufacturer_in t c c (λ v w. refl))

      turn : (c e : Certificate) → T (one_manufacturer t c e) → T (one_manufacturer t e c)
      turn c e h = manufacturer_in t e c (λ v w. sym (manufacturer_out t c e h w v))

      even : (c e : Certificate) → one_manufacturer t c e ≡ one_manufacturer t e c
      even c e = same (one_manufacturer t c e) (one_manufacturer t e c) (turn c e) (turn e c)

not_both_grows : (s : Seen) → Grows (all_pairs (not_both s)) (λ l x. all (λ y. not_both s x y && not_both s y x) l)
not_both_grows s = pairs_grow (not_both s) (λ c. T_true (not_both s c c) (not_both_in s c c (λ v w q g. sym g ∙ q)))

-- ---- the rules

pub cards_grow : Grows cards_fit card_with
unfolding cards_fit
cards_grow = both_grow (all_grows card_fits) (distinct_grows (λ k. k.number))

pub places_grow : (cards : List Card) → Grows (places_known cards) (λ l c. known_place cards c.place)
places_grow cards = all_grows (λ c. known_place cards c.place)

module _ (p : Phone) where
  pub i2_grows : Grows (of_certificates i2 p) (λ l c. slot_fits c)
  unfolding i2
  i2_grows = all_grows slot_fits

  pub i4_grows : Grows (of_certificates i4 p) (i4_with p.cards)
  unfolding i4
  i4_grows = grows_as as_asked (both_grow (both_grow (distinct_grows (λ c. c.id)) keys_grow) (all_grows (card_owns p.cards)))
    where
      turn : (a b o : Bool) → ((a && b) && o) ≡ ((o && a) && b)
      turn true b o = and_comm b o ∙ ap (λ x. x && b) (sym (and-true o))
      turn false b true = refl
      turn false b false = refl

      as_asked : (l : List Certificate) (c : Certificate)
          → ((all (λ y. apart c.id y.id) l && all (key_of_one_domain c) l) && card_owns p.cards c) ≡ i4_with p.cards l c
      as_asked l c = turn (all (λ y. apart c.id y.id) l) (all (key_of_one_domain c) l) (card_owns p.cards c)

  pub i5_grows : Grows (of_certificates i5 p) (i5_with p.cards p.trust.seen)
  unfolding i5
  i5_grows =
      grows_as as_asked
      (both_grow
      (both_grow (both_grow (each_place_grows p.trust.seen.clock) (not_both_grows p.trust.seen))
      (all_grows (owned_by_card p.cards p.trust.seen)))
      (manufacturers_grow p.trust.seen.clock))
    where
      turn : (e o m : Bool) → ((e && o) && m) ≡ (o && (e && m))
      turn true o m = refl
      turn false true m = refl
      turn false false m = refl

      as_asked : (l : List Certificate) (c : Certificate)
          → (((all (one_in_place p.trust.seen.clock c) l && all (λ y. not_both p.trust.seen c y && not_both p.trust.seen y c) l)
          && owned_by_card p.cards p.trust.seen c) && all (one_manufacturer p.trust.seen.clock c) l)
          ≡ i5_with p.cards p.trust.seen l c
      as_asked l c =
          let s = p.trust.seen in
          let each : Certificate → Bool = one_in_place s.clock c in
          let both : Certificate → Bool = λ y. not_both s c y && not_both s y c in
          turn (all each l && all both l) (owned_by_card p.cards s c) (all (one_manufacturer s.clock c) l)
          ∙ ap (λ b. owned_by_card p.cards s c && (b && all (one_manufacturer s.clock c) l)) (sym (all_and each both l))
          ∙ ap (λ b. owned_by_card p.cards s c && b) (sym (all_and (λ y. each y && both y) (one_manufacturer s.clock c) l))

  pub i7_grows : Grows (of_executables i7 p) (executable_with (length p.table))
  unfolding i7
  i7_grows = both_grow (all_grows (executable_slot_fits (length p.table))) (distinct_grows (λ x. x.id))

  pub i8_grows : Grows (of_executables i8 p) (λ l x. chained_fits p.trust x)
  unfolding i8
  i8_grows = all_grows (chained_fits p.trust)

-- ---- I5 asks nothing of a record that is no valid root of an operator or of a manufacturer

module _ (cards : List Card) (s : Seen) (c : Certificate) (e : (valid_in 1 s.clock c || valid_in 2 s.clock c) ≡ false) where
  no_operator : valid_in 1 s.clock c ≡ false
  no_operator = go (valid_in 1 s.clock c) (valid_in 2 s.clock c) e
    where
      go : (a b : Bool) → (a || b) ≡ false → a ≡ false
      go true b e = e
      go false b e = refl

  no_manufacturer : valid_in 2 s.clock c ≡ false
  no_manufacturer = go (valid_in 1 s.clock c) (valid_in 2 s.clock c) e
    where
      go : (a b : Bool) → (a || b) ≡ false → b ≡ false
      go true b e = absurd (true≢false e)
      go false b e = e

  pair_spared : (y : Certificate) → i5_pair s c y ≡ true
  unfolding one_in_place not_both one_manufacturer ◌implies◌
  pair_spared y = rw (no_operator, no_manufacturer) (go (valid_in 1 s.clock y) (eqb y.place 0) (eqb c.place s.card) (eqb s.card 0))
    where
      go : (v z w k : Bool) → ((not (((v && false) && z) && w) || k) && true) ≡ true
      go true z w k = refl
      go false z w k = refl

  pub i5_spares : (l : List Certificate) → true ≡ i5_with cards s l c
  unfolding owned_by_card ◌implies◌
  i5_spares l = rw no_operator (sym (T_true _ (all_in (i5_pair s c) l (λ y m. true_T _ (pair_spared y)))))

-- ---- what a rule's function answers: nothing, or the lowest record

module _ {A : Type 0} {rule : List A → Bool} {more : List A → A → Bool} (g : Grows rule more) (d : A) (l : List A) {F : Type 0} (none : F) (at : ℕ → F) where
  pub placed : {i : ℕ} {r : F} → i ≡ lowest rule l → r ≡ cond (ltb i (length l)) (at i) none → r ≡ cond (rule l) none (at (lowest rule l))
  placed {i} {r} e q =
      q ∙ ap (λ n. cond (ltb n (length l)) (at n) none) e ∙ ap (λ b. cond b (at (lowest rule l)) none) (lowest_told g d l) ∙ turn (rule l) (at (lowest rule l))
    where
      turn : (b : Bool) (n : F) → cond (not b) n none ≡ cond b none n
      turn true n = refl
      turn false n = refl

-- what the answer r of a rule b tells, of which f is the fault where it is broken
module _ (b : Bool) (none f : Fault) {r : Fault} (e : r ≡ cond b none f) where
  pub answer_breaks : none.rule ≡ 0 → r.rule ≢ 0 → b ≡ false
  answer_breaks n z = go b e
    where
      go : (b : Bool) → r ≡ cond b none f → b ≡ false
      go true e = absurd (z (ap (λ x. x.rule) e ∙ n))
      go false e = refl

  pub answer_keeps : f.rule ≢ 0 → r.rule ≡ 0 → b ≡ true
  answer_keeps z q = go b e
    where
      go : (b : Bool) → r ≡ cond b none f → b ≡ true
      go true e = refl
      go false e = absurd (z (sym (ap (λ x. x.rule) e) ∙ q))

  pub answer_at : none.rule ≡ 0 → r.rule ≢ 0 → r ≡ f
  answer_at n z = go b e
    where
      go : (b : Bool) → r ≡ cond b none f → r ≡ f
      go true e = absurd (z (ap (λ x. x.rule) e ∙ n))
      go false e = e
