-- A phone is what its image says, and a framed image is the image of the phone that it says. Assumes nothing.
use mathlib.Core.{Path.{◌≡◌, refl, sym, ap, ap₂, ◌∙◌}, Bool.true, List.{List, [], ◌++◌, append-nil}}
use Prim.Native.Nat.{ℕ, ◌+◌, ◌*◌, ◌≤◌}
use native.Mathlib.Omega.{arith}
use lib.{ListN.{length, take, drop, length-append, take-append-drop, drop_of_length-le}, Seq.drop-drop}
use Rattle.octets.specs.Octets.{be, bytes}
use Rattle.octets.proofs.ByteLaws.{Bytes}
use Rattle.records.specs.Sizes.{header_size, certificate_size, card_size, executable_size, row_size, certificates_start, image_end, largest_image}
use Rattle.records.specs.Layout.{certificate_read, certificate_bytes, card_read, card_bytes, executable_read, executable_bytes, row_read, row_bytes}
use Rattle.records.specs.Phone.{Phone, joined, header_of, header_bytes, encode, decode, version, certificate_slots, card_count, executable_slots}
use Rattle.records.specs.Phone.{action_count, standing_mode, card_present, header_zero, clock_time, certificates_at, cards_at, executables_at, table_at}
use Rattle.records.specs.Phone.{total_length, cards_from, executables_from, table_from, ends_at, no_certificate, no_card, no_executable, no_row}
use Rattle.records.specs.Frame.{framed, Sized, Framed}
use Rattle.records.proofs.Joined.{length_joined, tabulate_of, joined_tabulate, cells}
use Rattle.records.proofs.Records.{length_row, upper, lower, certificate_part, card_part, executable_part, row_part}
use Rattle.records.proofs.ImageParts.{before_table, length_before_table, part_table, certificate_slots_encode, card_count_encode}
use Rattle.records.proofs.ImageParts.{executable_slots_encode, action_count_encode, standing_mode_encode, card_present_encode, clock_time_encode}
use Rattle.records.proofs.ImageParts.{cards_at_encode, executables_at_encode, table_at_encode, certificate_encode, card_encode, executable_encode}
use Rattle.records.proofs.ImageParts.{row_encode}
use Rattle.records.proofs.{Said.{length_certificates, length_cards, length_executables, length_table}, FrameFacts.{Fields, fields}}

-- ---- from a phone to its image and back

pub decode_encode : (p : Phone) → decode (encode p) ≡ p
unfolding decode
decode_encode p =
    rw (certificate_slots_encode p, card_count_encode p, executable_slots_encode p, action_count_encode p)
    (rw (standing_mode_encode p, card_present_encode p, clock_time_encode p)
    (simp (
      tabulate_of no_certificate p.trust.certificates _ (certificate_encode p),
      tabulate_of no_card p.cards _ (card_encode p),
      tabulate_of no_executable p.executables _ (executable_encode p),
      tabulate_of no_row p.table _ (row_encode p),
    )))

pub length_encode : (p : Phone)
    → length (encode p) ≡ image_end (length p.trust.certificates) (length p.cards) (length p.executables) (length p.table)
length_encode p =
    ap length (part_table p) ∙ length-append (before_table p) (joined row_bytes p.table ++ [])
    ∙ ap₂ ◌+◌ (length_before_table p) (ap length (append-nil (joined row_bytes p.table)) ∙ length_joined row_bytes row_size length_row p.table)

pub framed_encode : (p : Phone) → Sized p → Framed (encode p)
framed_encode p s =
    let e = decode_encode p in
    record {
      shaped = sym (ap encode e);
      sized = rw e s;
      room = rw e (length_encode p);
      certificates = rw e (certificate_slots_encode p);
      cards = rw e (card_count_encode p);
      executables = rw e (executable_slots_encode p);
      actions = rw e (action_count_encode p);
      cards_from = rw e (cards_at_encode p);
      executables_from = rw e (executables_at_encode p);
      table_from = rw e (table_at_encode p);
    }

-- ---- from an image to its phone and back

-- the fourteen numbers of a header
numbers : ℕ → ℕ → ℕ → ℕ → ℕ → ℕ → ℕ → ℕ → ℕ → ℕ → ℕ → ℕ → ℕ → ℕ → List ℕ
numbers v n m k a mode card z clock o₁ o₂ o₃ o₄ o₅ =
    bytes 2 v ++ (bytes 2 n ++ (bytes 2 m ++ (bytes 2 k ++ (bytes 2 a ++ (bytes 2 mode ++ (bytes 2 card ++ (bytes 2 z
    ++ (bytes 4 clock ++ (bytes 4 o₁ ++ (bytes 4 o₂ ++ (bytes 4 o₃ ++ (bytes 4 o₄ ++ bytes 4 o₅))))))))))))

module _ (l : List ℕ) (b : Bytes l) (f : Fields l) where
  numbers_part : numbers (version l) (certificate_slots l) (card_count l) (executable_slots l) (action_count l)
      (standing_mode l) (card_present l) (header_zero l) (clock_time l)
      (certificates_at l) (cards_at l) (executables_at l) (table_at l) (total_length l)
      ≡ take header_size l
  unfolding numbers be
  numbers_part =
      let h : 0 + header_size ≤ length l = omega arith in
      rw (cells l header_size 0 h) (simp (upper l b, lower l b))

  header_part : header_bytes (decode l) ≡ take header_size l
  unfolding header_of decode numbers
  header_part =
      rw (length_certificates l, length_cards l, length_executables l, length_table l)
      (rw (f.version, f.blank, f.certificates_at, f.cards_at, f.executables_at, f.table_at, f.total) at numbers_part)

  certificates_part : joined certificate_bytes (decode l).trust.certificates ≡ take (certificate_slots l * certificate_size) (drop certificates_start l)
  unfolding decode
  certificates_part =
      joined_tabulate certificate_bytes certificate_size certificate_read l (certificate_part l b)
      (certificate_slots l) certificates_start (omega arith) _ (λ i. refl)

  cards_part : joined card_bytes (decode l).cards ≡ take (card_count l * card_size) (drop (cards_from l) l)
  unfolding decode
  cards_part =
      joined_tabulate card_bytes card_size card_read l (card_part l b) (card_count l) (cards_from l) (omega arith) _ (λ i. refl)

  executables_part : joined executable_bytes (decode l).executables ≡ take (executable_slots l * executable_size) (drop (executables_from l) l)
  unfolding decode
  executables_part =
      joined_tabulate executable_bytes executable_size executable_read l (executable_part l b)
      (executable_slots l) (executables_from l) (omega arith) _ (λ i. refl)

  table_part : joined row_bytes (decode l).table ≡ take (action_count l * row_size) (drop (table_from l) l)
  unfolding decode
  table_part =
      joined_tabulate row_bytes row_size row_read l (row_part l b) (action_count l) (table_from l) (omega arith) _ (λ i. refl)

  -- a part and what follows it
  after : (part : List ℕ) (n base : ℕ) → part ≡ take n (drop base l) → (rest : List ℕ) → drop (base + n) l ≡ rest → drop base l ≡ part ++ rest
  after part n base e rest r = sym (take-append-drop n (drop base l)) ∙ cc (drop-drop n base l)

  shaped : l ≡ encode (decode l)
  unfolding encode
  shaped =
      after _ header_size 0 header_part _
      (after _ (certificate_slots l * certificate_size) certificates_start certificates_part _
      (after _ (card_count l * card_size) (cards_from l) cards_part _
      (after _ (executable_slots l * executable_size) (executables_from l) executables_part _
      (after _ (action_count l * row_size) (table_from l) table_part [] (drop_of_length-le l {i = ends_at l} (omega arith))
      ∙ append-nil (joined row_bytes (decode l).table)))))

  framed_of : Framed l
  framed_of =
      let n = length_certificates l in
      let m = length_cards l in
      let k = length_executables l in
      let a = length_table l in
      record {
        shaped = shaped;
        sized = record { certificates = omega arith; cards = omega arith; executables = omega arith; some_action = omega arith; actions = omega arith };
        room = omega arith;
        certificates = sym n;
        cards = sym m;
        executables = sym k;
        actions = sym a;
        cards_from = omega arith;
        executables_from = omega arith;
        table_from = omega arith;
      }

pub frame : (l : List ℕ) → Bytes l → framed l ≡ true → Framed l
frame l b h = framed_of l b (fields l h)

-- ---- how large an image is

pub largest : largest_image ≡ 2536
largest = refl

pub small : (l : List ℕ) → Framed l → length l ≤ largest_image
small l f = omega arith
