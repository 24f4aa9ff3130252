-- The table of codes under one name, and an actor that the table knows. Assumes nothing.
use Prim.Native.Nat.{◌<◌}
use mathlib.Core.{Bool.true, Path.◌≡◌}
use native.Mathlib.Omega.{arith}
use borrow.Author.Tests.{le-leb}
use lib.Dec.{leb}
use Rattle.records.specs.declared.Event.{Event}
use Rattle.rules.specs.{Words.first, Actors.acts_for}
use Rattle.rules.specs.Forms.{new_certificate, clock_form, card_form, card_in_form, card_out_form, install_form, owned_form, id_form, message_form}
use Rattle.rules.specs.Forms.{executable_form, action_form, replace_form, malformed}
use Rattle.rules.specs.Codes.{code_of, subject, recovery_named, id_unknown, actor_barred, time_back, card_unknown, card_wrong, card_away, id_taken}
use Rattle.rules.specs.Codes.{key_elsewhere, install_of_other, mark_of_other, no_such_root, another_valid, no_free_slot, table_byte, never, not_permitted}
use Rattle.rules.specs.Codes.{may_replace, cannot_replace, out_of_date}

-- the table and its tests under one name: with a line `unfolding the_table` they compute at a known kind
unfoldable pub the_table : Unit {0}
unfolding first code_of malformed subject recovery_named acts_for id_unknown actor_barred time_back card_unknown card_wrong card_away id_taken key_elsewhere
    install_of_other mark_of_other no_such_root another_valid no_free_slot table_byte never not_permitted may_replace cannot_replace
    out_of_date
    clock_form card_form card_in_form card_out_form install_form owned_form id_form message_form executable_form action_form replace_form new_certificate
the_table = tt

pub small_actor : (e : Event) → e.actor < 5 → leb e.actor 4 ≡ true
small_actor e a = le-leb e.actor 4 (omega arith)
