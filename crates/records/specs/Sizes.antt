-- Sizes of the records, limits of the tables, and where the parts of an image start. Definitions only.
use Rattle.std.specs.Prelude.{ℕ, ◌+◌, ◌*◌}

-- "Header, 40 bytes: u16 version = 1"
abbrev pub header_size : ℕ
header_size = 40

abbrev pub image_version : ℕ
image_version = 1

-- "Certificate, 24 bytes"
abbrev pub certificate_size : ℕ
certificate_size = 24

-- "Card, 8 bytes"
abbrev pub card_size : ℕ
card_size = 8

-- "Executable, 12 bytes"
abbrev pub executable_size : ℕ
executable_size = 12

-- "for each action four bytes"
abbrev pub row_size : ℕ
row_size = 4

-- "A 24-byte record": an event
abbrev pub event_size : ℕ
event_size = 24

-- "At most 64 certificate slots, 8 cards, 64 executable slots, 32 actions"
abbrev pub most_certificates : ℕ
most_certificates = 64

abbrev pub most_cards : ℕ
most_cards = 8

abbrev pub most_executables : ℕ
most_executables = 64

abbrev pub most_actions : ℕ
most_actions = 32

-- "standing message mode 0..2"
abbrev pub highest_mode : ℕ
highest_mode = 2

-- the sizes that differ from version to version of an image, with the version that has them
pub record Sizes : Type 0 where
  pub version : ℕ
  pub certificate : ℕ
  pub executable : ℕ

abbrev pub newest : Sizes
newest = record { version = image_version; certificate = certificate_size; executable = executable_size }

-- "Parts follow each other with no gap in that order, certificates at 40": for n certificate slots, m cards, k executable slots, a actions
abbrev pub certificates_start : ℕ
certificates_start = header_size

abbrev pub cards_start_by : Sizes → ℕ → ℕ
cards_start_by z n = certificates_start + n * z.certificate

abbrev pub executables_start_by : Sizes → ℕ → ℕ → ℕ
executables_start_by z n m = cards_start_by z n + m * card_size

abbrev pub table_start_by : Sizes → ℕ → ℕ → ℕ → ℕ
table_start_by z n m k = executables_start_by z n m + k * z.executable

abbrev pub image_end_by : Sizes → ℕ → ℕ → ℕ → ℕ → ℕ
image_end_by z n m k a = table_start_by z n m k + a * row_size

-- of the newest version
abbrev pub cards_start : ℕ → ℕ
cards_start = cards_start_by newest

abbrev pub executables_start : ℕ → ℕ → ℕ
executables_start = executables_start_by newest

abbrev pub table_start : ℕ → ℕ → ℕ → ℕ
table_start = table_start_by newest

abbrev pub image_end : ℕ → ℕ → ℕ → ℕ → ℕ
image_end = image_end_by newest

-- "at most 2,536 bytes"
abbrev pub largest_image : ℕ
largest_image = image_end most_certificates most_cards most_executables most_actions
