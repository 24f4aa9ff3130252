-- Each record is read as it was written, and its bytes are those that it was read from. Assumes nothing.
use mathlib.Core.{Path.{◌≡◌, refl}, List.{List, ◌++◌}}
use Prim.Native.Nat.{ℕ, zero, suc, ◌+◌, ◌*◌, ◌/◌, ◌%◌, ◌≤◌, ◌<◌}
use native.{Mathlib.Nat.{add-zero, add_assoc}, Mathlib.Omega.arith}
use lib.ListN.{length, get_or, take, drop}
use Rattle.octets.specs.Octets.{be, be8}
use Rattle.octets.proofs.ByteLaws.{be_skip, join, high, low, Bytes}
use Rattle.records.specs.{declared.Certificate.Certificate, declared.Card.Card, declared.Executable.Executable, declared.Row.Row, declared.Event.Event}
use Rattle.records.specs.Sizes.{certificate_size, card_size, executable_size, row_size, event_size}
use Rattle.records.specs.Layout.{certificate_read, certificate_bytes, card_read, card_bytes, executable_read, executable_bytes, row_read, row_bytes}
use Rattle.records.specs.Layout.{row_byte, event_read, event_bytes}
use Rattle.records.proofs.Joined.{cells}

-- ---- widths

pub length_certificate : (c : Certificate) → length (certificate_bytes c) ≡ certificate_size
length_certificate c = refl

pub length_card : (c : Card) → length (card_bytes c) ≡ card_size
length_card c = refl

pub length_executable : (x : Executable) → length (executable_bytes x) ≡ executable_size
length_executable x = refl

pub length_row : (r : Row) → length (row_bytes r) ≡ row_size
length_row r = refl

pub length_event : (e : Event) → length (event_bytes e) ≡ event_size
length_event e = refl

-- ---- a record that stands first is read as it was written

certificate_first : (ys : List ℕ) (c : Certificate) → certificate_read (certificate_bytes c ++ ys) 0 ≡ c
unfolding be
certificate_first ys c = simp join

card_first : (ys : List ℕ) (c : Card) → card_read (card_bytes c ++ ys) 0 ≡ c
unfolding be
card_first ys c = simp join

executable_first : (ys : List ℕ) (x : Executable) → executable_read (executable_bytes x ++ ys) 0 ≡ x
unfolding be
executable_first ys x = simp join

row_first : (ys : List ℕ) (r : Row) → row_read (row_bytes r ++ ys) 0 ≡ r
unfolding be
row_first ys r = refl

pub event_read_bytes : (e : Event) → event_read (event_bytes e) 0 ≡ e
unfolding be
event_read_bytes e = simp join

-- ---- and wherever it stands

pub certificate_here : (xs ys : List ℕ) (c : Certificate) → certificate_read (xs ++ (certificate_bytes c ++ ys)) (length xs) ≡ c
certificate_here xs ys c = simp be_skip (certificate_first ys c)

pub card_here : (xs ys : List ℕ) (c : Card) → card_read (xs ++ (card_bytes c ++ ys)) (length xs) ≡ c
card_here xs ys c = simp be_skip (card_first ys c)

pub executable_here : (xs ys : List ℕ) (x : Executable) → executable_read (xs ++ (executable_bytes x ++ ys)) (length xs) ≡ x
executable_here xs ys x = simp be_skip (executable_first ys x)

pub row_here : (xs ys : List ℕ) (r : Row) → row_read (xs ++ (row_bytes r ++ ys)) (length xs) ≡ r
row_here xs ys r = simp be_skip (row_first ys r)

-- ---- the bytes of what was read

module _ (l : List ℕ) (b : Bytes l) where
  pub upper : (x i : ℕ) → (x * 256 + get_or l i 0) / 256 ≡ x
  upper x i = high x (get_or l i 0) (b i)

  pub lower : (x i : ℕ) → (x * 256 + get_or l i 0) % 256 ≡ get_or l i 0
  lower x i = low x (get_or l i 0) (b i)

  pub certificate_part : (a : ℕ) → a + certificate_size ≤ length l → certificate_bytes (certificate_read l a) ≡ take certificate_size (drop a l)
  unfolding be
  certificate_part a h = rw (cells l certificate_size a h) (simp (upper, lower, add_assoc, add-zero))

  pub card_part : (a : ℕ) → a + card_size ≤ length l → card_bytes (card_read l a) ≡ take card_size (drop a l)
  unfolding be
  card_part a h = rw (cells l card_size a h) (simp (upper, lower, add_assoc, add-zero))

  pub executable_part : (a : ℕ) → a + executable_size ≤ length l → executable_bytes (executable_read l a) ≡ take executable_size (drop a l)
  unfolding be
  executable_part a h = rw (cells l executable_size a h) (simp (upper, lower, add_assoc, add-zero))

  pub row_part : (a : ℕ) → a + row_size ≤ length l → row_bytes (row_read l a) ≡ take row_size (drop a l)
  unfolding be
  row_part a h = rw (cells l row_size a h) (simp add-zero)

-- a byte of the row that stands at a
pub row_byte_read : (l : List ℕ) (a d : ℕ) → d < row_size → row_byte (row_read l a) d ≡ be8 l (a + d)
row_byte_read l a zero h = refl
row_byte_read l a (suc zero) h = refl
row_byte_read l a (suc (suc zero)) h = refl
row_byte_read l a (suc (suc (suc zero))) h = refl
row_byte_read l a (suc (suc (suc (suc d)))) h = absurd (omega arith)
