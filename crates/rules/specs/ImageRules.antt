-- 01, "The image": the image rules, checked in this order. Definitions only.
use Rattle.std.specs.Prelude.{ℕ, ◌^◌}
use mathlib.Core.{Bool.{Bool, cond, not, ◌&&◌, ◌||◌}, List.{List, [], ◌∷◌, map}}
use lib.{Dec.{eqb, leb, ltb}, ListN.length}
use Rattle.records.specs.{Phone.{Seen, Trust, Phone, decode, no_card}, Frame.framed, declared.Certificate.Certificate, declared.Card.Card}
use Rattle.records.specs.{declared.Executable.Executable, declared.Row.Row}
use Rattle.rules.specs.{Words.{between, ◌implies◌, any, all, all_pairs, distinct, all_zero, find, Check, ◌⇒◌, first}, Chains.{valid_root, chains_to}}

-- ---- words of the rules

-- a slot is free where its id is 0: I2 and I7 ask that all of it is 0 then
abbrev pub free_certificate : Certificate → Bool
free_certificate c = eqb c.id 0

abbrev pub free_executable : Executable → Bool
free_executable x = eqb x.id 0

-- "in the table", of cards
unfoldable pub in_card_table : List Card → ℕ → Bool
in_card_table cards n = any (λ k. eqb k.number n) cards

-- "is 0 or in the table"
unfoldable pub known_place : List Card → ℕ → Bool
known_place cards n = eqb n 0 || in_card_table cards n

-- "the card's operator"
unfoldable pub operator_of : List Card → ℕ → ℕ
operator_of cards n = (find (λ k. eqb k.number n) no_card cards).operator

abbrev pub operator_root : Certificate → Bool
operator_root c = eqb c.kind 0 && eqb c.domain 1

abbrev pub third_party_root : Certificate → Bool
third_party_root c = eqb c.kind 0 && eqb c.domain 3

-- "valid-marked operator root", "valid-marked manufacturer root": a valid root of domain d
unfoldable pub valid_in : ℕ → ℕ → Certificate → Bool
valid_in d clock c = valid_root clock c && eqb c.domain d

-- a place "has a valid-marked operator root"
unfoldable pub has_valid_operator : Trust → ℕ → Bool
has_valid_operator t place = any (λ c. valid_in 1 t.seen.clock c && eqb c.place place) t.certificates

-- ---- I1 Header

abbrev pub i1 : List ℕ → Bool
i1 l = framed l

-- ---- I2 Certificate

-- "A free slot is all zero"
unfoldable pub zero_certificate : Certificate → Bool
zero_certificate c =
    all_zero (c.id ∷ c.place ∷ c.kind ∷ c.domain ∷ c.mark ∷ c.enabled ∷ c.key ∷ c.verifying ∷ c.owner ∷ c.expiry ∷ [])

-- "u8 kind (0 root, 1 issued, 2 recovery), u8 domain 1..3, u8 mark (1 valid) and u8 enabled, each 0 or 1"; "an occupied one has id and key not 0"
unfoldable pub certificate_ranges : Certificate → Bool
certificate_ranges c =
    not (eqb c.id 0) && not (eqb c.key 0) && leb c.kind 2 && between 1 3 c.domain && leb c.mark 1 && leb c.enabled 1

-- "Roots: verifying key 0; a manufacturer root has place 0; enabled is 1 unless it is a third party root."
unfoldable pub root_fits : Certificate → Bool
root_fits c =
    eqb c.verifying 0 && (eqb c.domain 2 implies eqb c.place 0) && (eqb c.enabled 1 || eqb c.domain 3)

-- "Issued: verifying key not 0, mark 1, enabled 1."
unfoldable pub issued_fits : Certificate → Bool
issued_fits c = not (eqb c.verifying 0) && eqb c.mark 1 && eqb c.enabled 1

-- "kind 2, recovery: phone only, domain 1 or 2, verifying key 0, mark 0, enabled 1"
unfoldable pub recovery_fits : Certificate → Bool
recovery_fits c = eqb c.place 0 && leb c.domain 2 && eqb c.verifying 0 && eqb c.mark 0 && eqb c.enabled 1

-- an occupied slot
unfoldable pub certificate_fits : Certificate → Bool
certificate_fits c =
    certificate_ranges c
    && (eqb c.kind 0 implies root_fits c)
    && (eqb c.kind 1 implies issued_fits c)
    && (eqb c.kind 2 implies recovery_fits c)

-- a slot, free or occupied
abbrev pub slot_fits : Certificate → Bool
slot_fits c = cond (free_certificate c) (zero_certificate c) (certificate_fits c)

unfoldable pub i2 : Phone → Bool
i2 p = all slot_fits p.trust.certificates

-- ---- I3 Card

-- one card
abbrev pub card_fits : Card → Bool
card_fits k = not (eqb k.number 0) && eqb k.blank 0

-- "u16 number (not 0, distinct), u16 zero, u32 operator."
unfoldable pub cards_fit : List Card → Bool
cards_fit cards = all card_fits cards && distinct (map (λ k. k.number) cards)

-- "Card present is 0 or in the table."
abbrev pub present_known : Phone → Bool
present_known p = known_place p.cards p.trust.seen.card

-- "Each certificate's place is 0 or in the table."
abbrev pub places_known : List Card → List Certificate → Bool
places_known cards l = all (λ c. known_place cards c.place) l

unfoldable pub i3 : Phone → Bool
i3 p = cards_fit p.cards && present_known p && places_known p.cards p.trust.certificates

-- ---- I4

-- "No two certificates of different domains have the same key": a free slot has key 0, and no certificate has
unfoldable pub key_of_one_domain : Certificate → Certificate → Bool
key_of_one_domain c e = (not (eqb c.key 0) && eqb c.key e.key) implies eqb c.domain e.domain

-- "An operator root on a card has the card's operator as owner."
unfoldable pub card_owns : List Card → Certificate → Bool
card_owns cards c =
    (operator_root c && not (eqb c.place 0)) implies eqb c.owner (operator_of cards c.place)

-- "Certificate ids are distinct."
unfoldable pub i4 : Phone → Bool
i4 p =
    distinct (map (λ c. c.id) p.trust.certificates)
    && all_pairs key_of_one_domain p.trust.certificates
    && all (card_owns p.cards) p.trust.certificates

-- ---- I5

-- "At most one valid-marked operator root on the phone and on each card": two in one place are one
unfoldable pub one_in_place : ℕ → Certificate → Certificate → Bool
one_in_place clock c e =
    (valid_in 1 clock c && valid_in 1 clock e && eqb c.place e.place) implies eqb c.id e.id

-- "none on the phone while the present card has one": c is on the phone and e on that card
unfoldable pub not_both : Seen → Certificate → Certificate → Bool
not_both seen c e =
    (valid_in 1 seen.clock c && valid_in 1 seen.clock e && eqb c.place 0 && eqb e.place seen.card) implies eqb seen.card 0

-- "with a card present, the one on the phone has the card's operator as owner"
unfoldable pub owned_by_card : List Card → Seen → Certificate → Bool
owned_by_card cards seen c =
    (valid_in 1 seen.clock c && eqb c.place 0 && not (eqb seen.card 0)) implies eqb c.owner (operator_of cards seen.card)

-- "At most one valid-marked manufacturer root."
unfoldable pub one_manufacturer : ℕ → Certificate → Certificate → Bool
one_manufacturer clock c e = (valid_in 2 clock c && valid_in 2 clock e) implies eqb c.id e.id

unfoldable pub i5 : Phone → Bool
i5 p =
    let seen = p.trust.seen in
    let l = p.trust.certificates in
    all_pairs (one_in_place seen.clock) l
    && all_pairs (not_both seen) l
    && all (owned_by_card p.cards seen) l
    && all_pairs (one_manufacturer seen.clock) l

-- ---- I6 Table

-- "0 never, 1 with user permission, 2 freely. The byte for domain 0 is no larger than the other three."
unfoldable pub row_fits : Row → Bool
row_fits r =
    leb r.untrusted r.operator && leb r.untrusted r.manufacturer && leb r.untrusted r.third
    && leb r.operator 2 && leb r.manufacturer 2 && leb r.third 2

unfoldable pub i6 : Phone → Bool
i6 p = all row_fits p.table

-- ---- I7 Executable

-- "A free slot is all zero."
unfoldable pub zero_executable : Executable → Bool
zero_executable x = all_zero (x.id ∷ x.domain ∷ x.blank ∷ x.signing ∷ x.permissions ∷ [])

-- "u8 domain 0..3, u8 zero"; "bits at or above the action count are 0"
unfoldable pub executable_fits : ℕ → Executable → Bool
executable_fits actions x = leb x.domain 3 && eqb x.blank 0 && ltb x.permissions (2 ^ actions)

-- a slot, free or occupied
abbrev pub executable_slot_fits : ℕ → Executable → Bool
executable_slot_fits actions x = cond (free_executable x) (zero_executable x) (executable_fits actions x)

-- "Ids are distinct and not 0."
unfoldable pub i7 : Phone → Bool
i7 p =
    all (executable_slot_fits (length p.table)) p.executables
    && distinct (map (λ x. x.id) p.executables)

-- ---- I8

-- "An executable with domain d not 0 chains to d."
abbrev pub chained_fits : Trust → Executable → Bool
chained_fits t x = eqb x.domain 0 || chains_to t x.signing x.domain

unfoldable pub i8 : Phone → Bool
i8 p = all (chained_fits p.trust) p.executables

-- ---- "The image rules, checked in this order"

-- those that ask the phone and not its bytes
abbrev pub phone_rules : Phone → List Check
phone_rules p =
    (not (i2 p) ⇒ 2)
    ∷ (not (i3 p) ⇒ 3)
    ∷ (not (i4 p) ⇒ 4)
    ∷ (not (i5 p) ⇒ 5)
    ∷ (not (i6 p) ⇒ 6)
    ∷ (not (i7 p) ⇒ 7)
    ∷ (not (i8 p) ⇒ 8)
    ∷ []

-- the first broken rule, and 0 where none is
unfoldable pub broken : List ℕ → ℕ
broken l = first ((not (i1 l) ⇒ 1) ∷ phone_rules (decode l))

unfoldable pub accepted : List ℕ → Bool
accepted l = eqb (broken l) 0

-- "opening an image answers 0 or 1"
unfoldable pub «open» : List ℕ → ℕ
«open» l = cond (accepted l) 0 1
