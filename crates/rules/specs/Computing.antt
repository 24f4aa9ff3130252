-- Every definition of the rules under one name: a line `unfolding computing` lets the rules compute. Assumes nothing.
use Rattle.octets.specs.Octets.{be}
use Rattle.bits.specs.Bits.{digit, put_digit}
use Rattle.records.specs.{Phone.{decode, encode, header_of}, Frame.{framed, header_fits, first_wrong, header_fault}}
use Rattle.rules.specs.Words.{◌implies◌, any, all, distinct, all_zero, find, first_place, fill, least, first}
use Rattle.rules.specs.Chains.{present, in_date, valid_root, trusted_root, link, serves, good, within, chains_to, chain_domain, links, chain_of}
use Rattle.rules.specs.ImageRules.{in_card_table, known_place, operator_of, valid_in, has_valid_operator, zero_certificate, certificate_ranges, root_fits}
use Rattle.rules.specs.ImageRules.{issued_fits, recovery_fits, certificate_fits, key_of_one_domain, card_owns, cards_fit, one_in_place, not_both}
use Rattle.rules.specs.ImageRules.{owned_by_card, one_manufacturer, row_fits, zero_executable, executable_fits, i2, i3, i4, i5, i6, i7, i8, broken}
use Rattle.rules.specs.ImageRules.{accepted, «open»}
use Rattle.rules.specs.{Faults.{first_number, lowest, i3_site, fault}, Actors.{may_act, acts_for}}
use Rattle.rules.specs.Forms.{new_certificate, clock_form, card_form, card_in_form, card_out_form, install_form, owned_form, id_form, message_form}
use Rattle.rules.specs.Forms.{executable_form, action_form, replace_form, no_form, malformed}
use Rattle.rules.specs.Codes.{certificate_named, executable_named, certificate_known, executable_known, subject, recovery_named, id_unknown, actor_barred}
use Rattle.rules.specs.Codes.{time_back, card_unknown, card_wrong, card_away, id_taken, key_elsewhere, install_of_other, mark_of_other, no_such_root}
use Rattle.rules.specs.Codes.{rival, another_valid, no_free_slot, table_byte, never, not_permitted, may_replace, cannot_replace, out_of_date, code_of}
use Rattle.rules.specs.Codes.{code}
use Rattle.rules.specs.Effects.{retired, card_rule, tick, card_in, card_out, power_up, install_certificate, delete_certificate, on_a_card, after_marking}
use Rattle.rules.specs.Effects.{mark_valid, mark_invalid, enabled_by, message, install_executable, delete_executable, verify, permit, request, replace}
use Rattle.rules.specs.Effects.{effect, settled, settle, changed}
use Rattle.rules.specs.{After.{after, after_all}, Step.{refusal, done, step, run, answers}, Demands.{grants, withdrawing, giving}}

unfoldable pub computing : Unit {0}
unfolding be digit put_digit decode encode header_of framed header_fits first_wrong header_fault ◌implies◌ any all distinct all_zero find
    first_place fill least first present in_date valid_root trusted_root link serves good within chains_to chain_domain links chain_of
    in_card_table known_place operator_of valid_in has_valid_operator zero_certificate certificate_ranges root_fits issued_fits recovery_fits
    certificate_fits key_of_one_domain card_owns one_in_place not_both owned_by_card one_manufacturer row_fits zero_executable
    executable_fits i2 i3 i4 i5 i6 i7 i8 broken accepted «open» cards_fit first_number lowest i3_site fault may_act acts_for new_certificate
    clock_form card_form card_in_form card_out_form install_form owned_form id_form message_form executable_form action_form replace_form no_form malformed
    certificate_named executable_named certificate_known executable_known subject recovery_named id_unknown actor_barred time_back card_unknown card_wrong
    card_away id_taken key_elsewhere install_of_other mark_of_other no_such_root rival another_valid no_free_slot table_byte never
    not_permitted may_replace cannot_replace out_of_date code_of code retired card_rule tick card_in card_out power_up install_certificate delete_certificate
    on_a_card after_marking mark_valid mark_invalid enabled_by message install_executable delete_executable verify permit request replace effect
    settled settle changed after after_all refusal done step run answers grants withdrawing giving
computing = tt
