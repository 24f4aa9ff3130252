-- Any two outcomes that a contract admits are equal: here for the contracts that are one equation, for the result (`returned`) or for the
-- buffer that is written (`written`). A line for each public function, by crates in the order of the house. Assumes nothing.
use Prim.Native.Nat.{ℕ}
use mathlib.Core.{List.{List, [], ◌∷◌}, Path.{◌≡◌, refl, sym, ap, ◌∙◌}}
use Rattle.uniqueness.specs.Outcomes.{OneResult, OneOutcome}

pub returned : {A : Type 0} {x y z : A} → x ≡ z → y ≡ z → x ≡ y
returned p q = p ∙ sym q

pub written : {r r' : Unit {0}} {x y z : List ℕ} → x ≡ z → y ≡ z → (r ≡ r') × (x ∷ [] ≡ y ∷ [])
written p q = (refl, ap (λ l. l ∷ []) (returned p q))

-- ==== octets

pub one_octets_read8 : OneResult Rattle.octets.proofs.U8Number.read.Reads.Learnt
one_octets_read8 κs a r r' e e' = returned

pub one_octets_read16 : OneResult Rattle.octets.proofs.U16Number.read.Reads.Learnt
one_octets_read16 κs a r r' e e' = returned

pub one_octets_read32 : OneResult Rattle.octets.proofs.U32Number.read.Reads.Learnt
one_octets_read32 κs a r r' e e' = returned

pub one_octets_is16 : OneResult Rattle.octets.proofs.is16.Reads.Learnt
one_octets_is16 κs a r r' e e' = returned

pub one_octets_write8 : OneOutcome Rattle.octets.proofs.U8Number.write.Reads.Learnt (λ e. e.1.0.now ∷ [])
one_octets_write8 κs a r r' e e' = written

pub one_octets_write16 : OneOutcome Rattle.octets.proofs.U16Number.write.Reads.Learnt (λ e. e.1.0.now ∷ [])
one_octets_write16 κs a r r' e e' = written

pub one_octets_write32 : OneOutcome Rattle.octets.proofs.U32Number.write.Reads.Learnt (λ e. e.1.0.now ∷ [])
one_octets_write32 κs a r r' e e' = written

pub one_octets_clear : OneOutcome Rattle.octets.proofs.clear.Reads.Learnt (λ e. e.0.now ∷ [])
one_octets_clear κs a r r' e e' = written

-- ==== bits

pub one_bits_has_bit : OneResult Rattle.bits.proofs.has_bit.Reads.Learnt
one_bits_has_bit κs a r r' e e' = returned

pub one_bits_set_bit : OneResult Rattle.bits.proofs.set_bit.Reads.Learnt
one_bits_set_bit κs a r r' e e' = returned

pub one_bits_clear_bit : OneResult Rattle.bits.proofs.clear_bit.Reads.Learnt
one_bits_clear_bit κs a r r' e e' = returned

pub one_slots_with_slot : OneResult Rattle.bits.proofs.slots.with_slot.Reads.Learnt
one_slots_with_slot κs a r r' e e' = returned

pub one_slots_lowest : OneResult Rattle.bits.proofs.slots.lowest.Reads.Learnt
one_slots_lowest κs a r r' e e' = returned

pub one_slots_rest : OneResult Rattle.bits.proofs.slots.rest.Reads.Learnt
one_slots_rest κs a r r' e e' = returned

-- ==== records

pub one_header_certificates_at : OneResult Rattle.records.proofs.Header.certificates_at.Reads.Learnt
one_header_certificates_at κs a r r' e e' = returned

pub one_header_cards_at : OneResult Rattle.records.proofs.Header.cards_at.Reads.Learnt
one_header_cards_at κs a r r' e e' = returned

pub one_header_executables_at : OneResult Rattle.records.proofs.Header.executables_at.Reads.Learnt
one_header_executables_at κs a r r' e e' = returned

pub one_header_table_at : OneResult Rattle.records.proofs.Header.table_at.Reads.Learnt
one_header_table_at κs a r r' e e' = returned

pub one_header_total : OneResult Rattle.records.proofs.Header.total.Reads.Learnt
one_header_total κs a r r' e e' = returned

pub one_event_read : OneResult Rattle.records.proofs.Event.read.Reads.Learnt
one_event_read κs a r r' e e' = returned

pub one_event_kind : OneResult Rattle.records.proofs.Event.kind.Reads.Learnt
one_event_kind κs a r r' e e' = returned

pub one_event_actor : OneResult Rattle.records.proofs.Event.actor.Reads.Learnt
one_event_actor κs a r r' e e' = returned

pub one_image_is_framed : OneResult Rattle.records.proofs.image.is_framed.Reads.Learnt
one_image_is_framed κs a r r' e e' = returned

pub one_image_header_fault : OneResult Rattle.records.proofs.image.header_fault.Reads.Learnt
one_image_header_fault κs a r r' e e' = returned

pub one_image_mode : OneResult Rattle.records.proofs.image.mode.Reads.Learnt
one_image_mode κs a r r' e e' = returned

pub one_image_card_present : OneResult Rattle.records.proofs.image.card_present.Reads.Learnt
one_image_card_present κs a r r' e e' = returned

pub one_image_clock : OneResult Rattle.records.proofs.image.clock.Reads.Learnt
one_image_clock κs a r r' e e' = returned

pub one_image_certificate : OneResult Rattle.records.proofs.image.certificate.Reads.Learnt
one_image_certificate κs a r r' e e' = returned

pub one_image_certificate_has_id : OneResult Rattle.records.proofs.image.certificate_has_id.Reads.Learnt
one_image_certificate_has_id κs a r r' e e' = returned

pub one_image_card : OneResult Rattle.records.proofs.image.card.Reads.Learnt
one_image_card κs a r r' e e' = returned

pub one_image_executable : OneResult Rattle.records.proofs.image.executable.Reads.Learnt
one_image_executable κs a r r' e e' = returned

pub one_image_executable_has_id : OneResult Rattle.records.proofs.image.executable_has_id.Reads.Learnt
one_image_executable_has_id κs a r r' e e' = returned

pub one_image_row : OneResult Rattle.records.proofs.image.row.Reads.Learnt
one_image_row κs a r r' e e' = returned

pub one_image_table_byte : OneResult Rattle.records.proofs.image.table_byte.Reads.Learnt
one_image_table_byte κs a r r' e e' = returned

pub one_image_set_clock : OneOutcome Rattle.records.proofs.image.set_clock.Reads.Learnt (λ e. e.0.now ∷ [])
one_image_set_clock κs a r r' e e' = written

pub one_image_set_card : OneOutcome Rattle.records.proofs.image.set_card.Reads.Learnt (λ e. e.0.now ∷ [])
one_image_set_card κs a r r' e e' = written

pub one_image_set_mode : OneOutcome Rattle.records.proofs.image.set_mode.Reads.Learnt (λ e. e.0.now ∷ [])
one_image_set_mode κs a r r' e e' = written

pub one_image_set_mark : OneOutcome Rattle.records.proofs.image.set_mark.Reads.Learnt (λ e. e.0.now ∷ [])
one_image_set_mark κs a r r' e e' = written

pub one_image_set_enabled : OneOutcome Rattle.records.proofs.image.set_enabled.Reads.Learnt (λ e. e.0.now ∷ [])
one_image_set_enabled κs a r r' e e' = written

pub one_image_write_certificate : OneOutcome Rattle.records.proofs.image.write_certificate.Reads.Learnt (λ e. e.0.now ∷ [])
one_image_write_certificate κs a r r' e e' = written

pub one_image_clear_certificate : OneOutcome Rattle.records.proofs.image.clear_certificate.Reads.Learnt (λ e. e.0.now ∷ [])
one_image_clear_certificate κs a r r' e e' = written

pub one_image_set_domain : OneOutcome Rattle.records.proofs.image.set_domain.Reads.Learnt (λ e. e.0.now ∷ [])
one_image_set_domain κs a r r' e e' = written

pub one_image_set_permissions : OneOutcome Rattle.records.proofs.image.set_permissions.Reads.Learnt (λ e. e.0.now ∷ [])
one_image_set_permissions κs a r r' e e' = written

pub one_image_write_executable : OneOutcome Rattle.records.proofs.image.write_executable.Reads.Learnt (λ e. e.0.now ∷ [])
one_image_write_executable κs a r r' e e' = written

pub one_image_clear_executable : OneOutcome Rattle.records.proofs.image.clear_executable.Reads.Learnt (λ e. e.0.now ∷ [])
one_image_clear_executable κs a r r' e e' = written

-- ==== terms

pub one_terms_apart : OneResult Rattle.terms.proofs.apart.Reads.Learnt
one_terms_apart κs a r r' e e' = returned

pub one_terms_certificate_fits : OneResult Rattle.terms.proofs.certificate_fits.Reads.Learnt
one_terms_certificate_fits κs a r r' e e' = returned

pub one_terms_slot_fits : OneResult Rattle.terms.proofs.slot_fits.Reads.Learnt
one_terms_slot_fits κs a r r' e e' = returned

pub one_terms_card_fits : OneResult Rattle.terms.proofs.card_fits.Reads.Learnt
one_terms_card_fits κs a r r' e e' = returned

pub one_terms_key_of_one_domain : OneResult Rattle.terms.proofs.key_of_one_domain.Reads.Learnt
one_terms_key_of_one_domain κs a r r' e e' = returned

pub one_terms_row_fits : OneResult Rattle.terms.proofs.row_fits.Reads.Learnt
one_terms_row_fits κs a r r' e e' = returned

pub one_terms_executable_slot_fits : OneResult Rattle.terms.proofs.executable_slot_fits.Reads.Learnt
one_terms_executable_slot_fits κs a r r' e e' = returned

pub one_terms_is_present : OneResult Rattle.terms.proofs.is_present.Reads.Learnt
one_terms_is_present κs a r r' e e' = returned

pub one_terms_in_date : OneResult Rattle.terms.proofs.in_date.Reads.Learnt
one_terms_in_date κs a r r' e e' = returned

pub one_terms_valid_root : OneResult Rattle.terms.proofs.valid_root.Reads.Learnt
one_terms_valid_root κs a r r' e e' = returned

pub one_terms_valid_in : OneResult Rattle.terms.proofs.valid_in.Reads.Learnt
one_terms_valid_in κs a r r' e e' = returned

pub one_terms_is_third_party_root : OneResult Rattle.terms.proofs.is_third_party_root.Reads.Learnt
one_terms_is_third_party_root κs a r r' e e' = returned

pub one_terms_is_phone_operator_root : OneResult Rattle.terms.proofs.is_phone_operator_root.Reads.Learnt
one_terms_is_phone_operator_root κs a r r' e e' = returned

pub one_terms_is_marked_operator : OneResult Rattle.terms.proofs.is_marked_operator.Reads.Learnt
one_terms_is_marked_operator κs a r r' e e' = returned

pub one_terms_on_a_card : OneResult Rattle.terms.proofs.on_a_card.Reads.Learnt
one_terms_on_a_card κs a r r' e e' = returned

pub one_terms_listed_id : OneResult Rattle.terms.proofs.forms.listed_id.Reads.Learnt
one_terms_listed_id κs a r r' e e' = returned

pub one_terms_new_certificate : OneResult Rattle.terms.proofs.forms.new_certificate.Reads.Learnt
one_terms_new_certificate κs a r r' e e' = returned

pub one_terms_replaced : OneResult Rattle.terms.proofs.forms.replaced.Reads.Learnt
one_terms_replaced κs a r r' e e' = returned

pub one_terms_may_replace : OneResult Rattle.terms.proofs.may_replace.Reads.Learnt
one_terms_may_replace κs a r r' e e' = returned

pub one_terms_is_somebody : OneResult Rattle.terms.proofs.actors.is_somebody.Reads.Learnt
one_terms_is_somebody κs a r r' e e' = returned

pub one_terms_acts_for : OneResult Rattle.terms.proofs.actors.acts_for.Reads.Learnt
one_terms_acts_for κs a r r' e e' = returned

pub one_terms_may_act : OneResult Rattle.terms.proofs.actors.may_act.Reads.Learnt
one_terms_may_act κs a r r' e e' = returned

-- ==== lookup

pub one_lookup_certificate_slot : OneResult Rattle.lookup.proofs.certificate_slot.Reads.Learnt
one_lookup_certificate_slot κs a r r' e e' = returned

pub one_lookup_executable_slot : OneResult Rattle.lookup.proofs.executable_slot.Reads.Learnt
one_lookup_executable_slot κs a r r' e e' = returned

pub one_lookup_executable_room : OneResult Rattle.lookup.proofs.executable_room.Reads.Learnt
one_lookup_executable_room κs a r r' e e' = returned

pub one_lookup_certificate_room : OneResult Rattle.lookup.proofs.certificate_room.Reads.Learnt
one_lookup_certificate_room κs a r r' e e' = returned

pub one_lookup_has_marked_operator : OneResult Rattle.lookup.proofs.has_marked_operator.Reads.Learnt
one_lookup_has_marked_operator κs a r r' e e' = returned

pub one_lookup_key_elsewhere : OneResult Rattle.lookup.proofs.key_elsewhere.Reads.Learnt
one_lookup_key_elsewhere κs a r r' e e' = returned

pub one_lookup_known_place : OneResult Rattle.lookup.proofs.known_place.Reads.Learnt
one_lookup_known_place κs a r r' e e' = returned

pub one_lookup_operator_of : OneResult Rattle.lookup.proofs.operator_of.Reads.Learnt
one_lookup_operator_of κs a r r' e e' = returned

pub one_lookup_has_valid_operator : OneResult Rattle.lookup.proofs.has_valid_operator.Reads.Learnt
one_lookup_has_valid_operator κs a r r' e e' = returned

-- ==== chain

pub one_chain_links_of : OneResult Rattle.chain.proofs.links_of.Reads.Learnt
one_chain_links_of κs a r r' e e' = returned

pub one_chain_is_good : OneResult Rattle.chain.proofs.is_good.Reads.Learnt
one_chain_is_good κs a r r' e e' = returned

pub one_chain_chain_of : OneResult Rattle.chain.proofs.chain_of.Reads.Learnt
one_chain_chain_of κs a r r' e e' = returned

pub one_chain_first_unchained : OneResult Rattle.chain.proofs.first_unchained.Reads.Learnt
one_chain_first_unchained κs a r r' e e' = returned

pub one_chain_runs_out : OneResult Rattle.chain.proofs.runs_out.Reads.Learnt
one_chain_runs_out κs a r r' e e' = returned

pub one_chain_settle_domain : OneOutcome Rattle.chain.proofs.settle_domain.Reads.Learnt (λ e. e.0.now ∷ [])
one_chain_settle_domain κs a r r' e e' = written

pub one_chain_settle : OneOutcome Rattle.chain.proofs.settle.Reads.Learnt (λ e. e.0.now ∷ [])
one_chain_settle κs a r r' e e' = written

-- ==== handling

pub one_handling_refusal_from : OneResult Rattle.handling.proofs.RefusalFromNoRoom.from.Reads.Learnt
one_handling_refusal_from κs a r r' e e' = returned

pub one_handling_refusal_code : OneResult Rattle.handling.proofs.Refusal.code.Reads.Learnt
one_handling_refusal_code κs a r r' e e' = returned

pub one_handling_refused : OneResult Rattle.handling.proofs.refused.Reads.Learnt
one_handling_refused κs a r r' e e' = returned

pub one_handling_done : OneResult Rattle.handling.proofs.done.Reads.Learnt
one_handling_done κs a r r' e e' = returned

pub one_handling_retire : OneOutcome Rattle.handling.proofs.retire.Reads.Learnt (λ e. e.0.now ∷ [])
one_handling_retire κs a r r' e e' = written

-- ==== reasons

-- ==== timeline

-- ==== monitor

pub one_monitor_open : OneResult Rattle.monitor.proofs.monitor_open.Reads.Learnt
one_monitor_open κs a r r' e e' = returned

-- ==== stream

pub one_stream_put_text : OneOutcome Rattle.stream.proofs.put_text.Reads.Learnt (λ e. e.0.now ∷ [])
one_stream_put_text κs a r r' e e' = written

-- ==== differences

pub one_differences_answer_of : OneResult Rattle.differences.proofs.answer_of.Reads.Learnt
one_differences_answer_of κs a r r' e e' = returned

pub one_differences_kind_of : OneResult Rattle.differences.proofs.kind_of.Reads.Learnt
one_differences_kind_of κs a r r' e e' = returned

pub one_differences_tell_case : OneResult Rattle.differences.proofs.Case.tell.Reads.Learnt
one_differences_tell_case κs a r r' e e' = returned
