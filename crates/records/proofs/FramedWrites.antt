-- What each write makes of a framed image: the image of the phone with that one thing changed. Assumes nothing.
use mathlib.Core.{Path.{◌≡◌, refl, sym, ap, ap₂, ◌∙◌}, List.{List, ◌++◌}}
use Prim.Native.Nat.{ℕ, ◌+◌, ◌*◌, ◌≤◌, ◌<◌}
use native.Mathlib.Nat.{add-zero}
use lib.{Dec.lit≤, ListN.{length, length-set}}
use Rattle.octets.specs.Octets.{bytes, put, zeros}
use Rattle.records.specs.{declared.Certificate.Certificate, declared.Executable.Executable}
use Rattle.records.specs.Sizes.{certificate_size, executable_size, certificates_start, executables_start}
use Rattle.records.specs.Layout.{certificate_bytes, card_bytes, executable_bytes, row_bytes}
use Rattle.records.specs.Phone.{Phone, joined, header_of, header_bytes, encode, decode, executables_at, no_certificate, no_executable, certificate_at}
use Rattle.records.specs.Phone.{executable_at, with_clock, with_card, with_mode, put_certificate, put_executable, marked, enabling, in_domain, permitted}
use Rattle.records.specs.Frame.{Framed}
use Rattle.records.proofs.{Joined.put_joined, Records.{length_certificate, length_executable}}
use Rattle.records.proofs.ImageParts.{length_header, before_cards, before_executables, length_before_executables, part_executables}

-- ---- bytes put within a record of a phone's image

module _ (p : Phone) (i k : ℕ) (vs : List ℕ) where
  in_certificate : (c : Certificate) → i < length p.trust.certificates → k + length vs ≤ certificate_size
      → put (certificate_bytes (certificate_at p i)) k vs ≡ certificate_bytes c
      → put (encode p) (certificates_start + i * certificate_size + k) vs ≡ encode (put_certificate i c p)
  unfolding encode
  in_certificate c h hk e =
      let rest = joined card_bytes p.cards ++ (joined executable_bytes p.executables ++ joined row_bytes p.table) in
      ap (λ (n : ℕ). put (encode p) (n + i * certificate_size + k) vs) (sym (length_header p))
      ∙ put_joined certificate_bytes certificate_size length_certificate (header_bytes p) p.trust.certificates i h rest k vs no_certificate c hk e
      ∙ rw length-set

  in_executable : (x : Executable) → i < length p.executables → k + length vs ≤ executable_size
      → put (executable_bytes (executable_at p i)) k vs ≡ executable_bytes x
      → put (encode p) (executables_start (length p.trust.certificates) (length p.cards) + i * executable_size + k) vs ≡ encode (put_executable i x p)
  unfolding before_executables before_cards
  in_executable x h hk e =
      ap₂ (λ (l : List ℕ) (n : ℕ). put l (n + i * executable_size + k) vs) (part_executables p) (sym (length_before_executables p))
      ∙ put_joined executable_bytes executable_size length_executable (before_executables p) p.executables i h
      (joined row_bytes p.table) k vs no_executable x hk e
      ∙ sym (part_executables (put_executable i x p) ∙ rw length-set)

-- ---- what is put in a framed image

module _ (l : List ℕ) (f : Framed l) where
  pub clock_written : (t : ℕ) → put l 16 (bytes 4 t) ≡ encode (with_clock t (decode l))
  unfolding encode put header_of
  clock_written t = ap (λ (s : List ℕ). put s 16 (bytes 4 t)) f.shaped

  pub card_written : (n : ℕ) → put l 12 (bytes 2 n) ≡ encode (with_card n (decode l))
  unfolding encode put header_of
  card_written n = ap (λ (s : List ℕ). put s 12 (bytes 2 n)) f.shaped

  pub mode_written : (m : ℕ) → put l 10 (bytes 2 m) ≡ encode (with_mode m (decode l))
  unfolding encode put header_of
  mode_written m = ap (λ (s : List ℕ). put s 10 (bytes 2 m)) f.shaped

  module _ (i : ℕ) (h : i < length (decode l).trust.certificates) where
    abbrev old_certificate : Certificate
    old_certificate = certificate_at (decode l) i

    certificate_changed : (k : ℕ) (vs : List ℕ) (c : Certificate) → k + length vs ≤ certificate_size
        → put (certificate_bytes old_certificate) k vs ≡ certificate_bytes c
        → put l (certificates_start + i * certificate_size + k) vs ≡ encode (put_certificate i c (decode l))
    certificate_changed k vs c hk e =
        ap (λ (s : List ℕ). put s (certificates_start + i * certificate_size + k) vs) f.shaped
        ∙ in_certificate (decode l) i k vs c h hk e

    pub mark_written : (m : ℕ)
        → put l (certificates_start + i * certificate_size + 6) (bytes 1 m) ≡ encode (put_certificate i (marked m old_certificate) (decode l))
    unfolding put
    mark_written m = certificate_changed 6 (bytes 1 m) (marked m old_certificate) (lit≤ tt) refl

    pub enabled_written : (m : ℕ)
        → put l (certificates_start + i * certificate_size + 7) (bytes 1 m) ≡ encode (put_certificate i (enabling m old_certificate) (decode l))
    unfolding put
    enabled_written m = certificate_changed 7 (bytes 1 m) (enabling m old_certificate) (lit≤ tt) refl

    pub certificate_written : (c : Certificate)
        → put l (certificates_start + i * certificate_size) (certificate_bytes c) ≡ encode (put_certificate i c (decode l))
    unfolding put
    certificate_written c =
        ap (λ (n : ℕ). put l n (certificate_bytes c)) (sym (add-zero (certificates_start + i * certificate_size)))
        ∙ certificate_changed 0 (certificate_bytes c) c (lit≤ tt) refl

    pub certificate_cleared : put l (certificates_start + i * certificate_size) (zeros certificate_size) ≡ encode (put_certificate i no_certificate (decode l))
    certificate_cleared = certificate_written no_certificate

  -- x is where the executables start, as the header has it
  module _ (x i : ℕ) (at : x ≡ executables_at l) (h : i < length (decode l).executables) where
    abbrev old_executable : Executable
    old_executable = executable_at (decode l) i

    executable_changed : (k : ℕ) (vs : List ℕ) (y : Executable) → k + length vs ≤ executable_size
        → put (executable_bytes old_executable) k vs ≡ executable_bytes y
        → put l (x + i * executable_size + k) vs ≡ encode (put_executable i y (decode l))
    executable_changed k vs y hk e =
        ap₂ (λ (s : List ℕ) (n : ℕ). put s (n + i * executable_size + k) vs) f.shaped (at ∙ f.executables_from)
        ∙ in_executable (decode l) i k vs y h hk e

    pub domain_written : (d : ℕ) → put l (x + i * executable_size + 2) (bytes 1 d) ≡ encode (put_executable i (in_domain d old_executable) (decode l))
    unfolding put
    domain_written d = executable_changed 2 (bytes 1 d) (in_domain d old_executable) (lit≤ tt) refl

    pub permissions_written : (w : ℕ) → put l (x + i * executable_size + 8) (bytes 4 w) ≡ encode (put_executable i (permitted w old_executable) (decode l))
    unfolding put
    permissions_written w = executable_changed 8 (bytes 4 w) (permitted w old_executable) (lit≤ tt) refl

    pub executable_written : (y : Executable) → put l (x + i * executable_size) (executable_bytes y) ≡ encode (put_executable i y (decode l))
    unfolding put
    executable_written y =
        ap (λ (n : ℕ). put l n (executable_bytes y)) (sym (add-zero (x + i * executable_size)))
        ∙ executable_changed 0 (executable_bytes y) y (lit≤ tt) refl

    pub executable_cleared : put l (x + i * executable_size) (zeros executable_size) ≡ encode (put_executable i no_executable (decode l))
    executable_cleared = executable_written no_executable
