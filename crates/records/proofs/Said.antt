-- What bytes say of a phone: how many records of each kind, and each of them where it stands. Assumes nothing.
use mathlib.Core.{Path.{◌≡◌, sym, ap, ◌∙◌}, List.List}
use Prim.Native.Nat.{ℕ, ◌+◌, ◌*◌, ◌<◌}
use native.Mathlib.Omega.{arith}
use lib.ListN.{length}
use Rattle.octets.specs.Octets.{be8}
use Rattle.records.specs.Sizes.{certificate_size, card_size, executable_size, row_size, certificates_start}
use Rattle.records.specs.Layout.{certificate_read, card_read, executable_read, row_read, row_byte}
use Rattle.records.specs.Phone.{decode, certificate_slots, card_count, executable_slots, action_count, cards_at, executables_at, table_at, cards_from}
use Rattle.records.specs.Phone.{executables_from, table_from, no_certificate, no_card, no_executable, no_row, certificate_at, card_at, executable_at}
use Rattle.records.specs.Phone.{row_at}
use Rattle.records.specs.Frame.{Framed}
use Rattle.records.proofs.{Joined.{length_tabulate, get_or_tabulate}, Records.row_byte_read}

-- ---- how many

module _ (l : List ℕ) where
  pub length_certificates : length (decode l).trust.certificates ≡ certificate_slots l
  unfolding decode
  length_certificates = length_tabulate _ _

  pub length_cards : length (decode l).cards ≡ card_count l
  unfolding decode
  length_cards = length_tabulate _ _

  pub length_executables : length (decode l).executables ≡ executable_slots l
  unfolding decode
  length_executables = length_tabulate _ _

  pub length_table : length (decode l).table ≡ action_count l
  unfolding decode
  length_table = length_tabulate _ _

-- ---- each of them; x is where the records start, as the header has it

pub certificate_said : (l : List ℕ) (i : ℕ) → i < length (decode l).trust.certificates
    → certificate_read l (certificates_start + i * certificate_size) ≡ certificate_at (decode l) i
unfolding decode
certificate_said l i h = sym (get_or_tabulate _ _ no_certificate i (rw (length_certificates l) at h))

module _ (l : List ℕ) (f : Framed l) where
  pub card_said : (x i : ℕ) → x ≡ cards_at l → i < length (decode l).cards → card_read l (x + i * card_size) ≡ card_at (decode l) i
  unfolding decode
  card_said x i e h =
      let e' : x ≡ cards_from l = omega arith in
      ap (λ (n : ℕ). card_read l (n + i * card_size)) e'
      ∙ sym (get_or_tabulate _ _ no_card i (rw (length_cards l) at h))

  pub executable_said : (x i : ℕ) → x ≡ executables_at l → i < length (decode l).executables
      → executable_read l (x + i * executable_size) ≡ executable_at (decode l) i
  unfolding decode
  executable_said x i e h =
      let e' : x ≡ executables_from l = omega arith in
      ap (λ (n : ℕ). executable_read l (n + i * executable_size)) e'
      ∙ sym (get_or_tabulate _ _ no_executable i (rw (length_executables l) at h))

  pub row_said : (x i : ℕ) → x ≡ table_at l → i < length (decode l).table → row_read l (x + i * row_size) ≡ row_at (decode l) i
  unfolding decode
  row_said x i e h =
      let e' : x ≡ table_from l = omega arith in
      ap (λ (n : ℕ). row_read l (n + i * row_size)) e'
      ∙ sym (get_or_tabulate _ _ no_row i (rw (length_table l) at h))

  pub table_byte_said : (x i d : ℕ) → x ≡ table_at l → i < length (decode l).table → d < row_size
      → be8 l (x + i * row_size + d) ≡ row_byte (row_at (decode l) i) d
  table_byte_said x i d e h hd = sym (row_byte_read l (x + i * row_size) d hd) ∙ ap (λ r. row_byte r d) (row_said x i e h)
