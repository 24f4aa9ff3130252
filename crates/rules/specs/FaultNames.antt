-- 02, item 1: what is said of the place that a fault names. Definitions only.
use Rattle.std.specs.Prelude.{ℕ, suc, ◌≤◌, ◌<◌}
use mathlib.Core.{Bool.{Bool, true, false}, List.{List, [], ◌∷◌, ◌++◌}, Logic.◌⊎◌, Path.◌≡◌}
use Rattle.std.specs.Prelude.{length, take}
use Rattle.records.specs.{Sizes.header_size, Phone.decode, Frame.{Field, ◌right_if◌, framed, header_fields, total_field}}
use Rattle.rules.specs.{declared.Site.Site, Words.all, ImageRules.{i1, i2, i3, i4, i5, i6, i7, i8, cards_fit, present_known, places_known}}

-- the rules of an image, I1 first
abbrev pub rules : List ℕ → List Bool
rules l =
    let p = decode l in
    i1 l ∷ i2 p ∷ i3 p ∷ i4 p ∷ i5 p ∷ i6 p ∷ i7 p ∷ i8 p ∷ []

-- ---- I1

abbrev pub is_right : Field → Bool
is_right (byte right_if b) = b

-- its fields in the order of its sentence, the total last
abbrev pub i1_fields : List ℕ → List Field
i1_fields l = header_fields l ++ (total_field l ∷ [])

-- the first of the fields that is wrong begins at this byte
pub record WrongField (fs : List Field) (byte : ℕ) : Type 0 where
  pub before : List Field
  pub after : List Field
  pub stands : fs ≡ before ++ ((byte right_if false) ∷ after)
  pub right_before : all is_right before ≡ true

-- ---- I2 to I8

-- the site is the lowest record that breaks the rule: those below it keep it, and with it they break it
pub record LowestAt {A : Type 0} (rule : List A → Bool) (l : List A) (place : ℕ → Site) (site : Site) : Type 0 where
  pub number : ℕ
  pub record_there : number < length l
  pub stands : site ≡ place number
  pub below : rule (take number l) ≡ true
  pub with_it : rule (take (suc number) l) ≡ false

-- I3: the card present, the lowest certificate of an unknown place, or the lowest card
abbrev pub WrongCard : List ℕ → Site → Type 0
WrongCard l s =
    let p = decode l in
    ((present_known p ≡ false) × (s ≡ Site.Header 12))
    ⊎ (LowestAt (places_known p.cards) p.trust.certificates Site.Certificate s ⊎ LowestAt cards_fit p.cards Site.Card s)

-- what is named is there: a byte of the header or its end, or a record of a framed image
abbrev pub Within : List ℕ → Site → Type 0
Within l (Site.Header n) = n ≤ header_size
Within l (Site.Certificate i) = (framed l ≡ true) × (i < length (decode l).trust.certificates)
Within l (Site.Card i) = (framed l ≡ true) × (i < length (decode l).cards)
Within l (Site.Executable i) = (framed l ≡ true) × (i < length (decode l).executables)
Within l (Site.Row i) = (framed l ≡ true) × (i < length (decode l).table)
