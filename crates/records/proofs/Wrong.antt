-- The first wrong field of a header, by the fields before it that are right. Assumes nothing.
use Prim.Native.Nat.{ℕ, ◌≤◌, ◌<◌}
use mathlib.Core.{List.List, Logic.◌≢◌, Path.◌≡◌}
use lib.ListN.{length}
use native.Mathlib.Omega.{arith}
use borrow.Author.Tests.{eq-eqb, ne_eqb, le-leb, lt-leb}
use Rattle.records.specs.Sizes.{header_size, image_version, most_certificates, most_cards, most_executables, most_actions, certificates_start}
use Rattle.records.specs.Phone.{version, certificate_slots, card_count, executable_slots, action_count, standing_mode, header_zero, certificates_at}
use Rattle.records.specs.Phone.{cards_at, executables_at, table_at, cards_from, executables_from, table_from}
use Rattle.records.specs.Frame.{part_fields, setting_fields, total_byte, first_wrong, header_fault}

module _ (l : List ℕ) where
  -- ---- where the parts are

  pub wrong_certificates_at : certificates_at l ≢ certificates_start → 20 ≡ first_wrong (part_fields l) total_byte
  unfolding first_wrong
  wrong_certificates_at n = rw (ne_eqb _ _ n)

  module _ (a : certificates_at l ≡ certificates_start) where
    pub wrong_cards_at : cards_at l ≢ cards_from l → 24 ≡ first_wrong (part_fields l) total_byte
    unfolding first_wrong
    wrong_cards_at n = rw (eq-eqb _ _ a, ne_eqb _ _ n)

    module _ (b : cards_at l ≡ cards_from l) where
      pub wrong_executables_at : executables_at l ≢ executables_from l → 28 ≡ first_wrong (part_fields l) total_byte
      unfolding first_wrong
      wrong_executables_at n = rw (eq-eqb _ _ a, eq-eqb _ _ b, ne_eqb _ _ n)

      module _ (d : executables_at l ≡ executables_from l) where
        pub wrong_table_at : table_at l ≢ table_from l → 32 ≡ first_wrong (part_fields l) total_byte
        unfolding first_wrong
        wrong_table_at n = rw (eq-eqb _ _ a, eq-eqb _ _ b, eq-eqb _ _ d, ne_eqb _ _ n)

        pub wrong_total : table_at l ≡ table_from l → 36 ≡ first_wrong (part_fields l) total_byte
        unfolding first_wrong
        wrong_total e = rw (eq-eqb _ _ a, eq-eqb _ _ b, eq-eqb _ _ d, eq-eqb _ _ e)

  -- ---- from the number of actions on

  pub no_action : action_count l ≡ 0 → 8 ≡ first_wrong (setting_fields l) total_byte
  unfolding first_wrong
  no_action n = rw (lt-leb 1 (action_count l) (omega arith))

  pub many_actions : most_actions < action_count l → 8 ≡ first_wrong (setting_fields l) total_byte
  unfolding first_wrong
  many_actions n = rw (le-leb 1 (action_count l) (omega arith), lt-leb _ _ n)

  module _ (a : action_count l ≢ 0) (b : action_count l ≤ most_actions) where
    pub wrong_mode : 2 < standing_mode l → 10 ≡ first_wrong (setting_fields l) total_byte
    unfolding first_wrong
    wrong_mode n = rw (le-leb 1 (action_count l) (omega arith), le-leb _ _ b, lt-leb _ _ n)

    module _ (d : standing_mode l ≤ 2) where
      pub wrong_blank : header_zero l ≢ 0 → 14 ≡ first_wrong (setting_fields l) total_byte
      unfolding first_wrong
      wrong_blank n = rw (le-leb 1 (action_count l) (omega arith), le-leb _ _ b, le-leb _ _ d, ne_eqb _ _ n)

      pub settings_right : header_zero l ≡ 0 → first_wrong (setting_fields l) total_byte ≡ first_wrong (part_fields l) total_byte
      unfolding first_wrong
      settings_right e = rw (le-leb 1 (action_count l) (omega arith), le-leb _ _ b, le-leb _ _ d, eq-eqb _ _ e)

  -- ---- the header

  pub too_short : length l < header_size → length l ≡ header_fault l
  unfolding first_wrong header_fault
  too_short n = rw (lt-leb _ _ n)

  module _ (a : header_size ≤ length l) where
    pub wrong_version : version l ≢ image_version → 0 ≡ header_fault l
    unfolding first_wrong header_fault
    wrong_version n = rw (le-leb _ _ a, ne_eqb _ _ n)

    module _ (b : version l ≡ image_version) where
      pub many_certificates : most_certificates < certificate_slots l → 2 ≡ header_fault l
      unfolding first_wrong header_fault
      many_certificates n = rw (le-leb _ _ a, eq-eqb _ _ b, lt-leb _ _ n)

      module _ (d : certificate_slots l ≤ most_certificates) where
        pub many_cards : most_cards < card_count l → 4 ≡ header_fault l
        unfolding first_wrong header_fault
        many_cards n = rw (le-leb _ _ a, eq-eqb _ _ b, le-leb _ _ d, lt-leb _ _ n)

        module _ (e : card_count l ≤ most_cards) where
          pub many_executables : most_executables < executable_slots l → 6 ≡ header_fault l
          unfolding first_wrong header_fault
          many_executables n = rw (le-leb _ _ a, eq-eqb _ _ b, le-leb _ _ d, le-leb _ _ e, lt-leb _ _ n)

          pub counts_right : executable_slots l ≤ most_executables → header_fault l ≡ first_wrong (setting_fields l) total_byte
          unfolding first_wrong header_fault
          counts_right n = rw (le-leb _ _ a, eq-eqb _ _ b, le-leb _ _ d, le-leb _ _ e, le-leb _ _ n)
