-- The tests of I4 and I5 on one certificate or two say what their propositions say. Assumes nothing.
use Prim.Native.Nat.{ℕ}
use mathlib.Core.{Bool.{Bool, not, ◌&&◌}, List.{List, Memᴰ}, Logic.◌≢◌, Path.◌≡◌}
use lib.Dec.{T, eqb, eqb→eq}
use Rattle.records.specs.{Phone.{Seen, Trust}, declared.Certificate.Certificate, declared.Card.Card}
use Rattle.rules.specs.ImageRules.{operator_of, operator_root, valid_in, has_valid_operator, key_of_one_domain, card_owns, one_in_place, not_both}
use Rattle.rules.specs.ImageRules.{owned_by_card, one_manufacturer}
use Rattle.laws.proofs.{Tests.{tests, eq→eqb, implies_out, implies_in}, Lists.any_in, Accepted.Valid}

-- ---- I4

module _ (c e : Certificate) where
  pub key_out : T (key_of_one_domain c e) → c.key ≢ 0 → c.key ≡ e.key → c.domain ≡ e.domain
  unfolding key_of_one_domain
  key_out h nz q =
      eqb→eq c.domain e.domain (implies_out (not (eqb c.key 0) && eqb c.key e.key) (eqb c.domain e.domain) h (search tests))

  pub key_in : (c.key ≢ 0 → c.key ≡ e.key → c.domain ≡ e.domain) → T (key_of_one_domain c e)
  unfolding key_of_one_domain
  key_in f =
      implies_in (not (eqb c.key 0) && eqb c.key e.key) (eqb c.domain e.domain)
      (λ t. eq→eqb c.domain e.domain (f (search tests) (search tests)))

module _ (cards : List Card) (c : Certificate) where
  pub owns_out : T (card_owns cards c) → c.kind ≡ 0 → c.domain ≡ 1 → c.place ≢ 0 → c.owner ≡ operator_of cards c.place
  unfolding card_owns
  owns_out h k d z =
      eqb→eq c.owner (operator_of cards c.place)
      (implies_out (operator_root c && not (eqb c.place 0)) (eqb c.owner (operator_of cards c.place)) h (search tests))

  pub owns_in : (c.kind ≡ 0 → c.domain ≡ 1 → c.place ≢ 0 → c.owner ≡ operator_of cards c.place) → T (card_owns cards c)
  unfolding card_owns
  owns_in f =
      implies_in (operator_root c && not (eqb c.place 0)) (eqb c.owner (operator_of cards c.place))
      (λ t. eq→eqb c.owner (operator_of cards c.place) (f (search tests) (search tests) (search tests)))

-- ---- I5

module _ (t : ℕ) (c e : Certificate) where
  pub in_place_out : T (one_in_place t c e) → Valid 1 t c → Valid 1 t e → c.place ≡ e.place → c.id ≡ e.id
  unfolding one_in_place
  in_place_out h v w q =
      eqb→eq c.id e.id (implies_out (valid_in 1 t c && valid_in 1 t e && eqb c.place e.place) (eqb c.id e.id) h (search tests))

  pub in_place_in : (Valid 1 t c → Valid 1 t e → c.place ≡ e.place → c.id ≡ e.id) → T (one_in_place t c e)
  unfolding one_in_place
  in_place_in f =
      implies_in (valid_in 1 t c && valid_in 1 t e && eqb c.place e.place) (eqb c.id e.id)
      (λ h. eq→eqb c.id e.id (f (search tests) (search tests) (search tests)))

  pub manufacturer_out : T (one_manufacturer t c e) → Valid 2 t c → Valid 2 t e → c.id ≡ e.id
  unfolding one_manufacturer
  manufacturer_out h v w = eqb→eq c.id e.id (implies_out (valid_in 2 t c && valid_in 2 t e) (eqb c.id e.id) h (search tests))

  pub manufacturer_in : (Valid 2 t c → Valid 2 t e → c.id ≡ e.id) → T (one_manufacturer t c e)
  unfolding one_manufacturer
  manufacturer_in f =
      implies_in (valid_in 2 t c && valid_in 2 t e) (eqb c.id e.id) (λ h. eq→eqb c.id e.id (f (search tests) (search tests)))

-- a valid operator root in a place
abbrev valid_at : Trust → ℕ → Certificate → Bool
valid_at t n c = valid_in 1 t.seen.clock c && eqb c.place n

pub has_valid_in : (t : Trust) (n : ℕ) (c : Certificate) → Memᴰ c t.certificates → Valid 1 t.seen.clock c → c.place ≡ n
    → T (has_valid_operator t n)
unfolding has_valid_operator
has_valid_in t n c m v e = any_in (valid_at t n) m (search tests)

-- ---- I5's sentences about the card present, one by one

module _ (s : Seen) (c e : Certificate) where
  pub not_both_out : T (not_both s c e) → Valid 1 s.clock c → Valid 1 s.clock e → c.place ≡ 0 → e.place ≡ s.card → s.card ≡ 0
  unfolding not_both
  not_both_out h v w q g =
      eqb→eq s.card 0
      (implies_out (valid_in 1 s.clock c && valid_in 1 s.clock e && eqb c.place 0 && eqb e.place s.card) (eqb s.card 0) h (search tests))

  pub not_both_in : (Valid 1 s.clock c → Valid 1 s.clock e → c.place ≡ 0 → e.place ≡ s.card → s.card ≡ 0) → T (not_both s c e)
  unfolding not_both
  not_both_in f =
      implies_in (valid_in 1 s.clock c && valid_in 1 s.clock e && eqb c.place 0 && eqb e.place s.card) (eqb s.card 0)
      (λ h. eq→eqb s.card 0 (f (search tests) (search tests) (search tests) (search tests)))

module _ (cards : List Card) (s : Seen) (c : Certificate) where
  abbrev on_phone : Bool
  on_phone = valid_in 1 s.clock c && eqb c.place 0 && not (eqb s.card 0)

  pub owned_out : T (owned_by_card cards s c) → Valid 1 s.clock c → c.place ≡ 0 → s.card ≢ 0 → c.owner ≡ operator_of cards s.card
  unfolding owned_by_card
  owned_out h v q z =
      eqb→eq c.owner (operator_of cards s.card) (implies_out on_phone (eqb c.owner (operator_of cards s.card)) h (search tests))

  pub owned_in : (Valid 1 s.clock c → c.place ≡ 0 → s.card ≢ 0 → c.owner ≡ operator_of cards s.card) → T (owned_by_card cards s c)
  unfolding owned_by_card
  owned_in f =
      implies_in on_phone (eqb c.owner (operator_of cards s.card))
      (λ h. eq→eqb c.owner (operator_of cards s.card) (f (search tests) (search tests) (search tests)))
