-- The frame of an image: rule I1 as a test, and what it is worth. Definitions only.
use Rattle.std.specs.Prelude.{ℕ, ◌≤◌}
use mathlib.Core.{Bool.{Bool, cond, ◌&&◌}, List.{List, [], ◌∷◌}, Path.◌≡◌}
use lib.{ListN.length, Dec.{eqb, leb}}
use Rattle.records.specs.Sizes.{Sizes, newest, header_size, most_certificates, most_cards, most_executables, most_actions, highest_mode}
use Rattle.records.specs.Sizes.{certificates_start, cards_start, executables_start, table_start, image_end}
use Rattle.records.specs.Phone.{Phone, version, certificate_slots, card_count, executable_slots, action_count, standing_mode, header_zero}
use Rattle.records.specs.Phone.{certificates_at, cards_at, executables_at, table_at, total_length, cards_from_by, executables_from_by, table_from_by}
use Rattle.records.specs.Phone.{ends_at_by, decode, encode}

-- I1, the first sentence's fields in their order;
-- "Parts follow each other with no gap in that order, certificates at 40. The total is the table's end and the buffer's length."
abbrev pub header_fits_by : Sizes → List ℕ → Bool
header_fits_by z l =
    eqb (version l) z.version
    && leb (certificate_slots l) most_certificates
    && leb (card_count l) most_cards
    && leb (executable_slots l) most_executables
    && leb 1 (action_count l)
    && leb (action_count l) most_actions
    && leb (standing_mode l) highest_mode
    && eqb (header_zero l) 0
    && eqb (certificates_at l) certificates_start
    && eqb (cards_at l) (cards_from_by z l)
    && eqb (executables_at l) (executables_from_by z l)
    && eqb (table_at l) (table_from_by z l)
    && eqb (total_length l) (ends_at_by z l)
    && eqb (length l) (ends_at_by z l)

unfoldable pub header_fits : List ℕ → Bool
header_fits l = header_fits_by newest l

-- I1: "A shorter buffer breaks I1"
unfoldable pub framed : List ℕ → Bool
framed l = leb header_size (length l) && header_fits l

-- ---- where it is not framed

-- a field of the header, by its first byte, and whether it is right
infix 20 ◌right_if◌
pub data Field : Type 0 where
  ◌right_if◌ : ℕ → Bool → Field

-- the first byte of the first field that is wrong, and of the last where those before it are right
unfoldable pub first_wrong : List Field → ℕ → ℕ
first_wrong [] last = last
first_wrong ((byte right_if b) ∷ l) last = cond b (first_wrong l last) byte

-- I1's fields in the order of its sentence, those that can be wrong: where the parts are
abbrev pub part_fields_by : Sizes → List ℕ → List Field
part_fields_by z l =
    (20 right_if eqb (certificates_at l) certificates_start)
    ∷ (24 right_if eqb (cards_at l) (cards_from_by z l))
    ∷ (28 right_if eqb (executables_at l) (executables_from_by z l))
    ∷ (32 right_if eqb (table_at l) (table_from_by z l))
    ∷ []

-- the same from the number of actions on
abbrev pub setting_fields_by : Sizes → List ℕ → List Field
setting_fields_by z l =
    (8 right_if (leb 1 (action_count l) && leb (action_count l) most_actions))
    ∷ (10 right_if leb (standing_mode l) highest_mode)
    ∷ (14 right_if eqb (header_zero l) 0)
    ∷ part_fields_by z l

-- the same from the version on, all but the total
abbrev pub header_fields_by : Sizes → List ℕ → List Field
header_fields_by z l =
    (0 right_if eqb (version l) z.version)
    ∷ (2 right_if leb (certificate_slots l) most_certificates)
    ∷ (4 right_if leb (card_count l) most_cards)
    ∷ (6 right_if leb (executable_slots l) most_executables)
    ∷ setting_fields_by z l

abbrev pub total_byte : ℕ
total_byte = 36

-- "The total is the table's end and the buffer's length."
abbrev pub total_field_by : Sizes → List ℕ → Field
total_field_by z l = total_byte right_if (eqb (total_length l) (ends_at_by z l) && eqb (length l) (ends_at_by z l))

-- of the newest version
abbrev pub part_fields : List ℕ → List Field
part_fields l = part_fields_by newest l

abbrev pub setting_fields : List ℕ → List Field
setting_fields l = setting_fields_by newest l

abbrev pub header_fields : List ℕ → List Field
header_fields l = header_fields_by newest l

abbrev pub total_field : List ℕ → Field
total_field l = total_field_by newest l

-- 02, item 1: "for I1 the first header byte of the first wrong field"; "A buffer shorter than 40 bytes gives rule 1 and its length."
abbrev pub header_fault_by : Sizes → List ℕ → ℕ
header_fault_by z l = cond (leb header_size (length l)) (first_wrong (header_fields_by z l) total_byte) (length l)

unfoldable pub header_fault : List ℕ → ℕ
header_fault l = header_fault_by newest l

-- a phone that an image has room for
pub record Sized (p : Phone) : Type 0 where
  pub certificates : length p.trust.certificates ≤ most_certificates
  pub cards : length p.cards ≤ most_cards
  pub executables : length p.executables ≤ most_executables
  pub some_action : 1 ≤ length p.table
  pub actions : length p.table ≤ most_actions

-- what a framed image is known to be: the image of the phone that it says, with its header's numbers those of that phone
pub record Framed (l : List ℕ) : Type 0 where
  pub shaped : l ≡ encode (decode l)
  pub sized : Sized (decode l)
  pub room : length l
      ≡ image_end (length (decode l).trust.certificates) (length (decode l).cards) (length (decode l).executables) (length (decode l).table)
  pub certificates : certificate_slots l ≡ length (decode l).trust.certificates
  pub cards : card_count l ≡ length (decode l).cards
  pub executables : executable_slots l ≡ length (decode l).executables
  pub actions : action_count l ≡ length (decode l).table
  pub cards_from : cards_at l ≡ cards_start (length (decode l).trust.certificates)
  pub executables_from : executables_at l ≡ executables_start (length (decode l).trust.certificates) (length (decode l).cards)
  pub table_from : table_at l ≡ table_start (length (decode l).trust.certificates) (length (decode l).cards) (length (decode l).executables)
