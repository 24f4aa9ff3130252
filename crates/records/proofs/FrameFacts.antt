-- The frame's test, taken apart into the facts that it tests. Assumes nothing.
use mathlib.Core.{Path.{◌≡◌, refl}, Bool.{Bool, true, false, ◌&&◌, false≢true}, List.List}
use Prim.Native.Nat.{ℕ, ◌≤◌}
use borrow.Author.Tests.{eqb-true, leb-true}
use lib.{Dec.leb, ListN.length}
use Rattle.records.specs.Sizes.{header_size, image_version, most_certificates, most_cards, most_executables, most_actions, certificates_start}
use Rattle.records.specs.Phone.{version, certificate_slots, card_count, executable_slots, action_count, header_zero, certificates_at, cards_at}
use Rattle.records.specs.Phone.{executables_at, table_at, total_length, cards_from, executables_from, table_from, ends_at}
use Rattle.records.specs.Frame.{header_fits, framed}

-- what the test is worth, but for the mode's range
pub record Fields (l : List ℕ) : Type 0 where
  pub version : version l ≡ image_version
  pub certificates : certificate_slots l ≤ most_certificates
  pub cards : card_count l ≤ most_cards
  pub executables : executable_slots l ≤ most_executables
  pub some_action : 1 ≤ action_count l
  pub actions : action_count l ≤ most_actions
  pub blank : header_zero l ≡ 0
  pub certificates_at : certificates_at l ≡ certificates_start
  pub cards_at : cards_at l ≡ cards_from l
  pub executables_at : executables_at l ≡ executables_from l
  pub table_at : table_at l ≡ table_from l
  pub total : total_length l ≡ ends_at l
  pub whole : length l ≡ ends_at l

both : (x y : Bool) → (x && y) ≡ true → (x ≡ true) × (y ≡ true)
both true y h = (refl, h)
both false y h = absurd (false≢true h)

pub fields : (l : List ℕ) → framed l ≡ true → Fields l
unfolding framed header_fits
fields l h =
    let a14 = both _ _ (both (leb header_size (length l)) (header_fits l) h).1 in
    let a13 = both _ _ a14.0 in
    let a12 = both _ _ a13.0 in
    let a11 = both _ _ a12.0 in
    let a10 = both _ _ a11.0 in
    let a9 = both _ _ a10.0 in
    let a8 = both _ _ a9.0 in
    let a7 = both _ _ a8.0 in
    let a6 = both _ _ a7.0 in
    let a5 = both _ _ a6.0 in
    let a4 = both _ _ a5.0 in
    let a3 = both _ _ a4.0 in
    let a2 = both _ _ a3.0 in
    record {
      version = eqb-true _ _ a2.0;
      certificates = leb-true _ _ a2.1;
      cards = leb-true _ _ a3.1;
      executables = leb-true _ _ a4.1;
      some_action = leb-true _ _ a5.1;
      actions = leb-true _ _ a6.1;
      blank = eqb-true _ _ a8.1;
      certificates_at = eqb-true _ _ a9.1;
      cards_at = eqb-true _ _ a10.1;
      executables_at = eqb-true _ _ a11.1;
      table_at = eqb-true _ _ a12.1;
      total = eqb-true _ _ a13.1;
      whole = eqb-true _ _ a14.1;
    }
