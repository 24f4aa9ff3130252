-- Where each part of a phone's image stands, and what is read there. Assumes nothing.
use mathlib.Core.{Path.{◌≡◌, refl, sym, ap, ap₂, ◌∙◌}, List.{List, [], ◌++◌, append_assoc, append-nil}}
use Prim.Native.Nat.{ℕ, ◌+◌, ◌*◌, ◌<◌}
use lib.ListN.{length, length-append}
use Rattle.octets.specs.Octets.{be}
use Rattle.octets.proofs.ByteLaws.{join}
use Rattle.records.specs.Sizes.{header_size, certificate_size, card_size, executable_size, row_size, certificates_start, cards_start, executables_start}
use Rattle.records.specs.Sizes.{table_start}
use Rattle.records.specs.Layout.{certificate_read, certificate_bytes, card_read, card_bytes, executable_read, executable_bytes, row_read, row_bytes}
use Rattle.records.specs.Phone.{Phone, joined, header_of, header_bytes, encode, certificate_slots, card_count, executable_slots, action_count}
use Rattle.records.specs.Phone.{standing_mode, card_present, clock_time, cards_at, executables_at, table_at, no_certificate, no_card, no_executable}
use Rattle.records.specs.Phone.{no_row, certificate_at, card_at, executable_at, row_at}
use Rattle.records.proofs.Joined.{length_joined, read_joined}
use Rattle.records.proofs.Records.{length_certificate, length_card, length_executable, length_row, certificate_here, card_here, executable_here}
use Rattle.records.proofs.Records.{row_here}

-- ---- what stands before a part

unfoldable pub before_cards : Phone → List ℕ
before_cards p = header_bytes p ++ joined certificate_bytes p.trust.certificates

unfoldable pub before_executables : Phone → List ℕ
before_executables p = before_cards p ++ joined card_bytes p.cards

unfoldable pub before_table : Phone → List ℕ
before_table p = before_executables p ++ joined executable_bytes p.executables

module _ (p : Phone) where
  pub length_header : length (header_bytes p) ≡ header_size
  unfolding header_of
  length_header = refl

  length_before_cards : length (before_cards p) ≡ cards_start (length p.trust.certificates)
  unfolding before_cards
  length_before_cards =
      length-append (header_bytes p) (joined certificate_bytes p.trust.certificates)
      ∙ ap₂ ◌+◌ length_header (length_joined certificate_bytes certificate_size length_certificate p.trust.certificates)

  pub length_before_executables : length (before_executables p) ≡ executables_start (length p.trust.certificates) (length p.cards)
  unfolding before_executables
  length_before_executables =
      length-append (before_cards p) (joined card_bytes p.cards)
      ∙ ap₂ ◌+◌ length_before_cards (length_joined card_bytes card_size length_card p.cards)

  pub length_before_table : length (before_table p) ≡ table_start (length p.trust.certificates) (length p.cards) (length p.executables)
  unfolding before_table
  length_before_table =
      length-append (before_executables p) (joined executable_bytes p.executables)
      ∙ ap₂ ◌+◌ length_before_executables (length_joined executable_bytes executable_size length_executable p.executables)

  -- the image, parted before a part
  part_cards : encode p ≡ before_cards p ++ (joined card_bytes p.cards ++ (joined executable_bytes p.executables ++ joined row_bytes p.table))
  unfolding encode before_cards
  part_cards = simp append_assoc

  pub part_executables : encode p ≡ before_executables p ++ (joined executable_bytes p.executables ++ joined row_bytes p.table)
  unfolding before_executables
  part_executables = part_cards ∙ simp append_assoc

  pub part_table : encode p ≡ before_table p ++ (joined row_bytes p.table ++ [])
  unfolding before_table
  part_table = part_executables ∙ simp (append_assoc, append-nil)

  -- ---- the header's numbers

  pub certificate_slots_encode : certificate_slots (encode p) ≡ length p.trust.certificates
  unfolding encode header_of be
  certificate_slots_encode = join (length p.trust.certificates)

  pub card_count_encode : card_count (encode p) ≡ length p.cards
  unfolding encode header_of be
  card_count_encode = join (length p.cards)

  pub executable_slots_encode : executable_slots (encode p) ≡ length p.executables
  unfolding encode header_of be
  executable_slots_encode = join (length p.executables)

  pub action_count_encode : action_count (encode p) ≡ length p.table
  unfolding encode header_of be
  action_count_encode = join (length p.table)

  pub standing_mode_encode : standing_mode (encode p) ≡ p.mode
  unfolding encode header_of be
  standing_mode_encode = join p.mode

  pub card_present_encode : card_present (encode p) ≡ p.trust.seen.card
  unfolding encode header_of be
  card_present_encode = join p.trust.seen.card

  pub clock_time_encode : clock_time (encode p) ≡ p.trust.seen.clock
  unfolding encode header_of be
  clock_time_encode = simp join

  pub cards_at_encode : cards_at (encode p) ≡ cards_start (length p.trust.certificates)
  unfolding encode header_of be
  cards_at_encode = simp join

  pub executables_at_encode : executables_at (encode p) ≡ executables_start (length p.trust.certificates) (length p.cards)
  unfolding encode header_of be
  executables_at_encode = simp join

  pub table_at_encode : table_at (encode p) ≡ table_start (length p.trust.certificates) (length p.cards) (length p.executables)
  unfolding encode header_of be
  table_at_encode = simp join

  -- ---- the records

  pub certificate_encode : (i : ℕ) → i < length p.trust.certificates
      → certificate_read (encode p) (certificates_start + i * certificate_size) ≡ certificate_at p i
  unfolding encode
  certificate_encode i h =
      ap (λ (n : ℕ). certificate_read (encode p) (n + i * certificate_size)) (sym length_header)
      ∙ read_joined certificate_bytes certificate_size length_certificate (header_bytes p) p.trust.certificates i h certificate_read certificate_here
      (joined card_bytes p.cards ++ (joined executable_bytes p.executables ++ joined row_bytes p.table)) no_certificate

  pub card_encode : (i : ℕ) → i < length p.cards → card_read (encode p) (cards_start (length p.trust.certificates) + i * card_size) ≡ card_at p i
  card_encode i h =
      ap₂ (λ (l : List ℕ) (n : ℕ). card_read l (n + i * card_size)) part_cards (sym length_before_cards)
      ∙ read_joined card_bytes card_size length_card (before_cards p) p.cards i h card_read card_here
      (joined executable_bytes p.executables ++ joined row_bytes p.table) no_card

  pub executable_encode : (i : ℕ) → i < length p.executables
      → executable_read (encode p) (executables_start (length p.trust.certificates) (length p.cards) + i * executable_size) ≡ executable_at p i
  executable_encode i h =
      ap₂ (λ (l : List ℕ) (n : ℕ). executable_read l (n + i * executable_size)) part_executables (sym length_before_executables)
      ∙ read_joined executable_bytes executable_size length_executable (before_executables p) p.executables i h executable_read executable_here
      (joined row_bytes p.table) no_executable

  pub row_encode : (i : ℕ) → i < length p.table
      → row_read (encode p) (table_start (length p.trust.certificates) (length p.cards) (length p.executables) + i * row_size) ≡ row_at p i
  row_encode i h =
      ap₂ (λ (l : List ℕ) (n : ℕ). row_read l (n + i * row_size)) part_table (sym length_before_table)
      ∙ read_joined row_bytes row_size length_row (before_table p) p.table i h row_read row_here [] no_row
