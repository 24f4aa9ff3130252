-- The rows of the table of codes that matter for the clock and the card. Assumes nothing.
use Prim.Native.Nat.{ℕ, ◌<◌}
use mathlib.Core.{Bool.{true, false, not, ◌&&◌, and-true, or-false}, List.{List, [], ◌∷◌}, Logic.◌≢◌, Path.{◌≡◌, sym, ap, ◌∙◌}}
use borrow.Author.Tests.{eq-eqb, ne_eqb}
use lib.Dec.{eqb, ltb}
use Rattle.records.specs.{Phone.Phone, declared.Event.Event}
use Rattle.rules.specs.{Words.{Check, ◌⇒◌}, ImageRules.known_place, Actors.may_act, Forms.{with_kind, clock_form, card_form}, Codes.code_of}
use Rattle.handling.proofs.{CodeRows.{Gives, gives}, TheTable.{the_table, small_actor}}

abbrev pub clock_rows : Phone → Event → List Check
clock_rows p e =
    (not (clock_form p e) ⇒ 2)
    ∷ (not (may_act 1 0 e.actor) ⇒ 4)
    ∷ (ltb e.key p.trust.seen.clock ⇒ 5)
    ∷ []

abbrev pub card_in_rows : Phone → Event → List Check
card_in_rows p e =
    (not (not (eqb e.second 0) && card_form p e) ⇒ 2)
    ∷ (not (may_act 2 0 e.actor) ⇒ 4)
    ∷ (not (known_place p.cards e.second) ⇒ 6)
    ∷ (not (eqb p.trust.seen.card 0) ⇒ 7)
    ∷ []

abbrev pub card_out_rows : Phone → Event → List Check
card_out_rows p e =
    (not (eqb e.second 0 && card_form p e) ⇒ 2)
    ∷ (not (may_act 3 0 e.actor) ⇒ 4)
    ∷ (eqb p.trust.seen.card 0 ⇒ 7)
    ∷ []

abbrev pub power_up_rows : Phone → Event → List Check
power_up_rows p e =
    (not (card_form p e) ⇒ 2)
    ∷ (not (may_act 4 0 e.actor) ⇒ 4)
    ∷ (not (known_place p.cards e.second) ⇒ 6)
    ∷ []

-- ---- what they give is the code

module _ (p : Phone) (e : Event) (a : e.actor < 5) where
  pub clock_told : {r : ℕ} → Gives r (clock_rows p e) → r ≡ code_of p (with_kind 1 e)
  unfolding the_table
  clock_told g = gives g ∙ simp (small_actor e a, and-true, or-false)

  pub card_in_told : {r : ℕ} → Gives r (card_in_rows p e) → r ≡ code_of p (with_kind 2 e)
  unfolding the_table
  card_in_told g = gives g ∙ simp (small_actor e a, and-true, or-false)

  pub card_out_told : {r : ℕ} → Gives r (card_out_rows p e) → r ≡ code_of p (with_kind 3 e)
  unfolding the_table
  card_out_told g = gives g ∙ simp (small_actor e a, and-true, or-false)

  pub power_up_told : {r : ℕ} → Gives r (power_up_rows p e) → r ≡ code_of p (with_kind 4 e)
  unfolding the_table
  power_up_told g = gives g ∙ simp (small_actor e a, and-true, or-false)

-- ---- what a number that was read tells of what stands there, as a test against 0

module _ {r n : ℕ} (q : r ≡ n) where
  pub says_zero : r ≡ 0 → eqb n 0 ≡ true
  says_zero z = eq-eqb n 0 (sym q ∙ z)

  pub says_non_zero : r ≢ 0 → eqb n 0 ≡ false
  says_non_zero h = ne_eqb n 0 (λ z. h (q ∙ z))

  pub says_not_zero : r ≡ 0 → not (eqb n 0) ≡ false
  says_not_zero z = ap not (says_zero z)

  pub says_not_non_zero : r ≢ 0 → not (eqb n 0) ≡ true
  says_not_non_zero h = ap not (says_non_zero h)
