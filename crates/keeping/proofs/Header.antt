-- The frame's test, I1: what it says of a phone that fits its image, and that the image of such a phone passes it. Assumes nothing.
use Prim.Native.Nat.{ℕ, ◌≤◌}
use mathlib.Core.{Bool.true, List.List, Path.{◌≡◌, refl}}
use native.Mathlib.Omega.{arith}
use borrow.Author.Tests.{le-leb, eq-eqb}
use lib.{Dec.leb→le, ListN.length}
use Rattle.octets.specs.Octets.{be}
use Rattle.octets.proofs.ByteLaws.{join}
use Rattle.records.specs.Sizes.{header_size, image_version, most_certificates, most_cards, most_executables, most_actions, certificates_start, image_end}
use Rattle.records.specs.Phone.{Phone, version, certificate_slots, card_count, executable_slots, action_count, standing_mode, header_zero, certificates_at}
use Rattle.records.specs.Phone.{cards_at, executables_at, table_at, total_length, cards_from, executables_from, table_from, ends_at, header_of, decode, encode}
use Rattle.records.specs.Frame.{header_fits, framed, Sized}
use Rattle.records.proofs.ImageParts.{certificate_slots_encode, card_count_encode, executable_slots_encode, action_count_encode, standing_mode_encode}
use Rattle.records.proofs.ImageParts.{cards_at_encode, executables_at_encode, table_at_encode}
use Rattle.records.proofs.{Said.{length_certificates, length_cards, length_executables, length_table}, FrameFacts.fields, RoundTrip.length_encode}
use Rattle.laws.proofs.{Tests.{and_l, and_r}, Accepts.true_T}

-- ---- what the test says

-- a phone with as many records of each kind as an image may have, and a mode that there is
pub record Fitting (p : Phone) : Type 0 where
  pub sized : Sized p
  pub mode : p.mode ≤ 2

abbrev pub size_of : Phone → ℕ
size_of p = image_end (length p.trust.certificates) (length p.cards) (length p.executables) (length p.table)

mode_small : (l : List ℕ) → framed l ≡ true → standing_mode l ≤ 2
unfolding framed header_fits
mode_small l h =
    let t = true_T (framed l) h in
    leb→le (standing_mode l) 2 (search (and_l, and_r) depth 11)

pub fitting : (l : List ℕ) → framed l ≡ true → Fitting (decode l)
unfolding decode
fitting l h =
    let f = fields l h in
    let n = length_certificates l in
    let m = length_cards l in
    let k = length_executables l in
    let a = length_table l in
    record {
      sized = record { certificates = omega arith; cards = omega arith; executables = omega arith; some_action = omega arith; actions = omega arith };
      mode = mode_small l h;
    }

pub length_framed : (l : List ℕ) → framed l ≡ true → length l ≡ size_of (decode l)
length_framed l h =
    let f = fields l h in
    omega (arith, length_certificates l, length_cards l, length_executables l, length_table l)

-- ---- the image of a phone passes it

module _ (p : Phone) where
  version_encode : version (encode p) ≡ image_version
  unfolding encode header_of be
  version_encode = refl

  header_zero_encode : header_zero (encode p) ≡ 0
  unfolding encode header_of be
  header_zero_encode = refl

  certificates_at_encode : certificates_at (encode p) ≡ certificates_start
  unfolding encode header_of be
  certificates_at_encode = refl

  total_length_encode : total_length (encode p) ≡ size_of p
  unfolding encode header_of be
  total_length_encode = simp join

  pub framed_fitting : Fitting p → framed (encode p) ≡ true
  unfolding framed header_fits
  framed_fitting f =
      let n = certificate_slots_encode p in
      let m = card_count_encode p in
      let k = executable_slots_encode p in
      let a = action_count_encode p in
      let s = f.sized in
      rw (
        le-leb header_size (length (encode p)) (omega (arith, length_encode p)),
        eq-eqb (version (encode p)) image_version version_encode,
        le-leb (certificate_slots (encode p)) most_certificates (omega arith),
        le-leb (card_count (encode p)) most_cards (omega arith),
        le-leb (executable_slots (encode p)) most_executables (omega arith),
        le-leb 1 (action_count (encode p)) (omega arith),
        le-leb (action_count (encode p)) most_actions (omega arith),
        le-leb (standing_mode (encode p)) 2 (omega (arith, standing_mode_encode p)),
        eq-eqb (header_zero (encode p)) 0 header_zero_encode,
        eq-eqb (certificates_at (encode p)) certificates_start certificates_at_encode,
        eq-eqb (cards_at (encode p)) (cards_from (encode p)) (omega (arith, cards_at_encode p)),
        eq-eqb (executables_at (encode p)) (executables_from (encode p)) (omega (arith, executables_at_encode p)),
        eq-eqb (table_at (encode p)) (table_from (encode p)) (omega (arith, table_at_encode p)),
        eq-eqb (total_length (encode p)) (ends_at (encode p)) (omega (arith, total_length_encode)),
        eq-eqb (length (encode p)) (ends_at (encode p)) (omega (arith, length_encode p)),
      )
