-- What the image rules ask of one more record beside those below it, by which the lowest that breaks a rule is looked for, and what code 13 asks where
-- they hold. Definitions only.
use Rattle.std.specs.Prelude.{ℕ}
use mathlib.Core.{Bool.{Bool, not, ◌&&◌, ◌||◌}, List.List}
use Rattle.std.specs.Prelude.{eqb}
use Rattle.records.specs.{Phone.Seen, declared.Certificate.Certificate, declared.Card.Card, declared.Executable.Executable}
use Rattle.rules.specs.{Words.all, Chains.valid_root}
use Rattle.rules.specs.ImageRules.{card_fits, key_of_one_domain, card_owns, one_in_place, not_both, owned_by_card, one_manufacturer, executable_slot_fits}

-- n is 0, or not m: ids, and numbers of cards
abbrev pub apart : ℕ → ℕ → Bool
apart n m = eqb n 0 || not (eqb n m)

-- ---- I3

-- of a card k, beside the cards l below it
abbrev pub card_with : List Card → Card → Bool
card_with l k = card_fits k && all (λ y. apart k.number y.number) l

-- ---- I4

-- of a certificate c, beside those below it
abbrev pub i4_with : List Card → List Certificate → Certificate → Bool
i4_with cards l c = card_owns cards c && all (λ y. apart c.id y.id) l && all (key_of_one_domain c) l

-- ---- I5

-- of two certificates, and of a certificate c, beside those below it
abbrev pub i5_pair : Seen → Certificate → Certificate → Bool
i5_pair seen c e = one_in_place seen.clock c e && (not_both seen c e && not_both seen e c) && one_manufacturer seen.clock c e

abbrev pub i5_with : List Card → Seen → List Certificate → Certificate → Bool
i5_with cards seen l c = owned_by_card cards seen c && all (i5_pair seen c) l

-- ---- I7

-- of an executable x, beside those below it
abbrev pub executable_with : ℕ → List Executable → Executable → Bool
executable_with actions l x = executable_slot_fits actions x && all (λ y. apart x.id y.id) l

-- ---- code 13

-- of a root c that is present on an accepted phone, and is the operator's or the manufacturer's: x is a valid root of its domain and another one, in its
-- place or on the card that is present
abbrev pub near_rival : ℕ → ℕ → Certificate → Certificate → Bool
near_rival clock card c x =
    valid_root clock x && eqb x.domain c.domain && not (eqb x.id c.id) && (eqb x.place c.place || eqb x.place card)
