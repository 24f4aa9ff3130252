-- What an image says of a phone, and the image of a phone. Definitions only.
use Rattle.std.specs.Prelude.{ℕ, zero, suc, ◌+◌, ◌*◌, List, [], ◌∷◌, ◌++◌, length, get_or, set}
use Rattle.octets.specs.Octets.{be16, be32, bytes}
use Rattle.records.specs.{declared.Certificate.Certificate, declared.Card.Card, declared.Executable.Executable, declared.Row.Row}
use Rattle.records.specs.Sizes.{Sizes, newest, image_version, certificate_size, card_size, row_size, cards_start_by, executables_start_by, table_start_by}
use Rattle.records.specs.Sizes.{image_end_by, certificates_start, cards_start, executables_start, table_start, image_end}
use Rattle.records.specs.Layout.{certificate_read, certificate_bytes, card_read, card_bytes, executable_read, executable_bytes, row_read, row_bytes}

-- ---- the phone, split by what depends on what

-- what decides which records are present and in date
pub record Seen : Type 0 where
  pub clock : ℕ
  pub card : ℕ

-- what chains depend on
pub record Trust : Type 0 where
  pub seen : Seen
  pub certificates : List Certificate

pub record Phone : Type 0 where
  pub trust : Trust
  pub mode : ℕ
  pub cards : List Card
  pub executables : List Executable
  pub table : List Row

-- "A free slot is all zero"
abbrev pub no_certificate : Certificate
no_certificate =
    record { id = 0; place = 0; kind = 0; domain = 0; mark = 0; enabled = 0; key = 0; verifying = 0; owner = 0; expiry = 0 }

abbrev pub no_card : Card
no_card = record { number = 0; blank = 0; operator = 0 }

abbrev pub no_executable : Executable
no_executable = record { id = 0; domain = 0; blank = 0; signing = 0; permissions = 0 }

abbrev pub no_row : Row
no_row = record { untrusted = 0; operator = 0; manufacturer = 0; third = 0 }

-- ---- from bytes to a phone

-- f of each number below n
abbrev pub tabulate : {A : Type 0} → ℕ → (ℕ → A) → List A
tabulate zero f = []
tabulate (suc n) f = f zero ∷ tabulate n (λ k. f (suc k))

-- "u16 version = 1, certificate slots 0..64, cards 0..8, executable slots 0..64, actions 1..32, standing message mode 0..2, card present (0 = none), zero"
abbrev pub version : List ℕ → ℕ
version l = be16 l 0

abbrev pub certificate_slots : List ℕ → ℕ
certificate_slots l = be16 l 2

abbrev pub card_count : List ℕ → ℕ
card_count l = be16 l 4

abbrev pub executable_slots : List ℕ → ℕ
executable_slots l = be16 l 6

abbrev pub action_count : List ℕ → ℕ
action_count l = be16 l 8

abbrev pub standing_mode : List ℕ → ℕ
standing_mode l = be16 l 10

abbrev pub card_present : List ℕ → ℕ
card_present l = be16 l 12

abbrev pub header_zero : List ℕ → ℕ
header_zero l = be16 l 14

-- "then u32 clock, offsets of certificates, cards, executables, table, and total length"
abbrev pub clock_time : List ℕ → ℕ
clock_time l = be32 l 16

abbrev pub certificates_at : List ℕ → ℕ
certificates_at l = be32 l 20

abbrev pub cards_at : List ℕ → ℕ
cards_at l = be32 l 24

abbrev pub executables_at : List ℕ → ℕ
executables_at l = be32 l 28

abbrev pub table_at : List ℕ → ℕ
table_at l = be32 l 32

abbrev pub total_length : List ℕ → ℕ
total_length l = be32 l 36

-- where the parts start, by the counts of the header and the sizes of a version
abbrev pub cards_from_by : Sizes → List ℕ → ℕ
cards_from_by z l = cards_start_by z (certificate_slots l)

abbrev pub executables_from_by : Sizes → List ℕ → ℕ
executables_from_by z l = executables_start_by z (certificate_slots l) (card_count l)

abbrev pub table_from_by : Sizes → List ℕ → ℕ
table_from_by z l = table_start_by z (certificate_slots l) (card_count l) (executable_slots l)

abbrev pub ends_at_by : Sizes → List ℕ → ℕ
ends_at_by z l = image_end_by z (certificate_slots l) (card_count l) (executable_slots l) (action_count l)

-- of the newest version
abbrev pub cards_from : List ℕ → ℕ
cards_from l = cards_from_by newest l

abbrev pub executables_from : List ℕ → ℕ
executables_from l = executables_from_by newest l

abbrev pub table_from : List ℕ → ℕ
table_from l = table_from_by newest l

abbrev pub ends_at : List ℕ → ℕ
ends_at l = ends_at_by newest l

-- how the images of a version are read: certificate i of n slots, and the executable whose first byte is at a
pub record Reading : Type 0 where
  pub sizes : Sizes
  pub certificate : List ℕ → ℕ → ℕ → Certificate
  pub executable : List ℕ → ℕ → Executable

-- the phone of an image, by the reading of its version
abbrev pub decode_by : Reading → List ℕ → Phone
decode_by r l =
    record {
      trust = record {
        seen = record { clock = clock_time l; card = card_present l };
        certificates = tabulate (certificate_slots l) (λ i. r.certificate l (certificate_slots l) i);
      };
      mode = standing_mode l;
      cards = tabulate (card_count l) (λ i. card_read l (cards_from_by r.sizes l + i * card_size));
      executables = tabulate (executable_slots l) (λ i. r.executable l (executables_from_by r.sizes l + i * r.sizes.executable));
      table = tabulate (action_count l) (λ i. row_read l (table_from_by r.sizes l + i * row_size));
    }

-- the newest version: one certificate after the other
abbrev pub current : Reading
current =
    record {
      sizes = newest;
      certificate = λ l n i. certificate_read l (certificates_start + i * certificate_size);
      executable = λ l a. executable_read l a;
    }

-- the phone of an image
unfoldable pub decode : List ℕ → Phone
decode l = decode_by current l

-- ---- from a phone to bytes

-- records one after the other
abbrev pub joined : {A : Type 0} → (A → List ℕ) → List A → List ℕ
joined enc [] = []
joined enc (a ∷ l) = enc a ++ joined enc l

-- the header for n certificate slots, m cards, k executable slots and a actions
unfoldable pub header_of : ℕ → ℕ → ℕ → ℕ → ℕ → ℕ → ℕ → List ℕ
header_of n m k a mode card clock =
    bytes 2 image_version ++ (bytes 2 n ++ (bytes 2 m ++ (bytes 2 k ++ (bytes 2 a ++ (bytes 2 mode ++ (bytes 2 card ++ (bytes 2 0
    ++ (bytes 4 clock ++ (bytes 4 certificates_start ++ (bytes 4 (cards_start n) ++ (bytes 4 (executables_start n m)
    ++ (bytes 4 (table_start n m k) ++ bytes 4 (image_end n m k a)))))))))))))

abbrev pub header_bytes : Phone → List ℕ
header_bytes p =
    header_of (length p.trust.certificates) (length p.cards) (length p.executables) (length p.table)
    p.mode p.trust.seen.card p.trust.seen.clock

-- the image of a phone
unfoldable pub encode : Phone → List ℕ
encode p =
    header_bytes p
    ++ (joined certificate_bytes p.trust.certificates ++ (joined card_bytes p.cards
    ++ (joined executable_bytes p.executables ++ joined row_bytes p.table)))

-- ---- one thing of a phone

abbrev pub certificate_at : Phone → ℕ → Certificate
certificate_at p i = get_or p.trust.certificates i no_certificate

abbrev pub card_at : Phone → ℕ → Card
card_at p i = get_or p.cards i no_card

abbrev pub executable_at : Phone → ℕ → Executable
executable_at p i = get_or p.executables i no_executable

abbrev pub row_at : Phone → ℕ → Row
row_at p i = get_or p.table i no_row

-- ---- the first byte of a record

abbrev pub certificate_offset_by : Sizes → ℕ → ℕ
certificate_offset_by z i = certificates_start + i * z.certificate

abbrev pub card_offset_by : Sizes → Phone → ℕ → ℕ
card_offset_by z p i = cards_start_by z (length p.trust.certificates) + i * card_size

abbrev pub executable_offset_by : Sizes → Phone → ℕ → ℕ
executable_offset_by z p i = executables_start_by z (length p.trust.certificates) (length p.cards) + i * z.executable

abbrev pub row_offset_by : Sizes → Phone → ℕ → ℕ
row_offset_by z p i =
    table_start_by z (length p.trust.certificates) (length p.cards) (length p.executables) + i * row_size

-- in the newest version
abbrev pub certificate_offset : ℕ → ℕ
certificate_offset i = certificate_offset_by newest i

abbrev pub card_offset : Phone → ℕ → ℕ
card_offset p i = card_offset_by newest p i

abbrev pub executable_offset : Phone → ℕ → ℕ
executable_offset p i = executable_offset_by newest p i

abbrev pub row_offset : Phone → ℕ → ℕ
row_offset p i = row_offset_by newest p i

-- ---- a phone or a record with one thing changed

abbrev pub with_trust : Trust → Phone → Phone
with_trust t p = record { trust = t; mode = p.mode; cards = p.cards; executables = p.executables; table = p.table }

abbrev pub with_mode : ℕ → Phone → Phone
with_mode m p = record { trust = p.trust; mode = m; cards = p.cards; executables = p.executables; table = p.table }

abbrev pub with_executables : List Executable → Phone → Phone
with_executables l p = record { trust = p.trust; mode = p.mode; cards = p.cards; executables = l; table = p.table }

abbrev pub with_seen : Seen → Phone → Phone
with_seen s p = with_trust (record { seen = s; certificates = p.trust.certificates }) p

abbrev pub with_clock : ℕ → Phone → Phone
with_clock t p = with_seen (record { clock = t; card = p.trust.seen.card }) p

abbrev pub with_card : ℕ → Phone → Phone
with_card n p = with_seen (record { clock = p.trust.seen.clock; card = n }) p

abbrev pub with_certificates : List Certificate → Phone → Phone
with_certificates l p = with_trust (record { seen = p.trust.seen; certificates = l }) p

abbrev pub put_certificate : ℕ → Certificate → Phone → Phone
put_certificate i c p = with_certificates (set p.trust.certificates i c) p

abbrev pub put_executable : ℕ → Executable → Phone → Phone
put_executable i x p = with_executables (set p.executables i x) p

abbrev pub marked : ℕ → Certificate → Certificate
marked m c =
    record {
      id = c.id;
      place = c.place;
      kind = c.kind;
      domain = c.domain;
      mark = m;
      enabled = c.enabled;
      key = c.key;
      verifying = c.verifying;
      owner = c.owner;
      expiry = c.expiry;
    }

abbrev pub enabling : ℕ → Certificate → Certificate
enabling m c =
    record {
      id = c.id;
      place = c.place;
      kind = c.kind;
      domain = c.domain;
      mark = c.mark;
      enabled = m;
      key = c.key;
      verifying = c.verifying;
      owner = c.owner;
      expiry = c.expiry;
    }

abbrev pub in_domain : ℕ → Executable → Executable
in_domain d x = record { id = x.id; domain = d; blank = x.blank; signing = x.signing; permissions = x.permissions }

abbrev pub permitted : ℕ → Executable → Executable
permitted w x = record { id = x.id; domain = x.domain; blank = x.blank; signing = x.signing; permissions = w }
