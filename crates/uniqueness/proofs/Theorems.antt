-- Any two outcomes that a contract admits are equal: here for the contracts that are more than one equation (a record, a product or an
-- implication), by crates in the order of the house. Equations.antt has the others. Assumes nothing.
use Prim.Native.Nat.{ℕ}
use native.{Mathlib.Omega.arith, Mathlib.Decide.dec_lt}
use mathlib.Core.{Bool.{Bool, true, false}, List.{List, [], ◌∷◌}, Path.{◌≡◌, refl, sym, ap, ◌∙◌, subst}}
use Rattle.records.specs.{Phone.{Phone, tabulate, decode, no_row}, declared.Event.Event}
use Rattle.records.proofs.Joined.{length_tabulate}
use Rattle.rules.specs.declared.Answer.{Answer}
use Rattle.events.specs.Stepped.{Stepped}
use Rattle.std.specs.Prelude.{Option, Some, None, Result}
use Rattle.bits.specs.{declared.slots.Slots.Slots, GivesSlots.GivesLowest}
use Rattle.sweep.specs.FirstPassing.{IsFirst}
use Rattle.sweep.proofs.OneFirst.{one_first}
use Rattle.handling.specs.{declared.Refusal.Refusal, RefusalCodes.by_code, Handled.{Tried, Settled}}
use Rattle.handling.proofs.PlanLaws.{same_coded}
use Rattle.monitor.specs.Told.{Followed}
use Rattle.differences.specs.Compared.{Differ}
use Rattle.uniqueness.specs.Outcomes.{OneResult, OneOutcome}
use Rattle.uniqueness.proofs.Equations.{returned}

-- a phone without anything, and one with n actions
abbrev no_phone : Phone
no_phone = decode []

abbrev with_actions : ℕ → Phone
with_actions n = record { trust = no_phone.trust; mode = 0; cards = []; executables = []; table = tabulate n (λ i. no_row) }

-- one buffer, of one equation
buffer : {x y z : List ℕ} → x ≡ z → y ≡ z → x ∷ [] ≡ y ∷ []
buffer p q = ap (λ l. l ∷ []) (returned p q)

-- ==== records: the number of slots, cards and actions, each with its bound

pub one_image_certificate_slots : OneResult Rattle.records.proofs.image.certificate_slots.Reads.Learnt
one_image_certificate_slots κs a r r' e e' x y = returned x.0 y.0

pub one_image_card_count : OneResult Rattle.records.proofs.image.card_count.Reads.Learnt
one_image_card_count κs a r r' e e' x y = returned x.0 y.0

pub one_image_executable_slots : OneResult Rattle.records.proofs.image.executable_slots.Reads.Learnt
one_image_executable_slots κs a r r' e e' x y = returned x.0 y.0

pub one_image_action_count : OneResult Rattle.records.proofs.image.action_count.Reads.Learnt
one_image_action_count κs a r r' e e' x y = returned x.0 y.0

-- ==== bits: what a walk through the slots of a word gives next, and what it leaves

pub one_slots_next : (s t u : Slots) (r q : Option ℕ) → GivesLowest s r t → GivesLowest s q u → (r ≡ q) × (t.0 ≡ u.0)
one_slots_next s t u None None x y = (refl, returned x.1 y.1)
one_slots_next s t u None (Some j) x y = absurd (y.0 x.0)
one_slots_next s t u (Some i) None x y = absurd (x.0 y.0)
one_slots_next s t u (Some i) (Some j) x y = (ap Some (returned x.1 y.1), returned x.2 y.2)

pub one_bits_slots_next : OneResult Rattle.bits.proofs.slots.SlotsIterator.next.Reads.Learnt
one_bits_slots_next κs a r r' e e' x y = (one_slots_next _ _ _ _ _ x.0 y.0).0

-- ==== sweep: the first slot that passes, where the test answers each slot one thing alone

pub one_sweep_first : (gives : ℕ → Bool → Type 0) → ((i : ℕ) (b b' : Bool) → gives i b → gives i b' → b ≡ b') → (n : ℕ)
    → (r r' : Option ℕ) → IsFirst gives n r → IsFirst gives n r' → r ≡ r'
one_sweep_first = one_first

-- ==== opening: the fault if there is one, and what none promises; the answer that tells it

pub one_opening_open : OneResult Rattle.opening.proofs.open.Reads.Learnt
one_opening_open κs a r r' e e' x y = returned x.answer y.answer

pub one_opening_told : OneResult Rattle.opening.proofs.told.Reads.Learnt
one_opening_told κs a r r' e e' = returned

-- ==== terms: the form of a kind, on every phone

pub one_terms_clock_form : OneResult Rattle.terms.proofs.forms.clock_form.Reads.Learnt
one_terms_clock_form κs a r r' e e' x y = returned (x no_phone) (y no_phone)

pub one_terms_card_form : OneResult Rattle.terms.proofs.forms.card_form.Reads.Learnt
one_terms_card_form κs a r r' e e' x y = returned (x no_phone) (y no_phone)

pub one_terms_id_form : OneResult Rattle.terms.proofs.forms.id_form.Reads.Learnt
one_terms_id_form κs a r r' e e' x y = returned (x no_phone) (y no_phone)

pub one_terms_owned_form : OneResult Rattle.terms.proofs.forms.owned_form.Reads.Learnt
one_terms_owned_form κs a r r' e e' x y = returned (x no_phone) (y no_phone)

pub one_terms_executable_form : OneResult Rattle.terms.proofs.forms.executable_form.Reads.Learnt
one_terms_executable_form κs a r r' e e' x y = returned (x no_phone) (y no_phone)

pub one_terms_replace_form : OneResult Rattle.terms.proofs.forms.replace_form.Reads.Learnt
one_terms_replace_form κs a r r' e e' x y = returned (x no_phone) (y no_phone)

pub one_terms_message_form : OneResult Rattle.terms.proofs.forms.message_form.Reads.Learnt
one_terms_message_form κs a r r' e e' x y = returned (x no_phone) (y no_phone)

-- on every phone with so many actions, and there is one
pub one_terms_action_form : OneResult Rattle.terms.proofs.forms.action_form.Reads.Learnt
one_terms_action_form κs a r r' e e' x y =
    let p = with_actions a.0 in
    let q = sym (length_tabulate a.0 (λ i. no_row)) in
    returned (x p q) (y p q)

-- ==== handling: the answer, and the image settled

one_settled : {l l' l'' : List ℕ} {r r' : Answer} → Settled l r l' → Settled l r' l'' → (r ≡ r') × (l' ∷ [] ≡ l'' ∷ [])
one_settled x y = (returned x.answer y.answer, buffer x.image y.image)

pub one_handling_settle : OneOutcome Rattle.handling.proofs.settle.Reads.Learnt (λ e. e.0.now ∷ [])
one_handling_settle κs a r r' e e' = one_settled

pub one_handling_settle_if : OneOutcome Rattle.handling.proofs.settle_if.Reads.Learnt (λ e. e.0.now ∷ [])
one_handling_settle_if κs a r r' e e' = one_settled

pub one_handling_settle_own : OneOutcome Rattle.handling.proofs.settle_own.Reads.Learnt (λ e. e.0.now ∷ [])
one_handling_settle_own κs a r r' e e' = one_settled

-- ==== device, certificates, executables: the answer or the refusal, and the image

same_told : {x y : Result Answer Refusal} {z : Result Answer ℕ} → by_code x ≡ z → by_code y ≡ z → x ≡ y
same_told {x} {y} p q = same_coded x y (returned p q)

one_tried : {l l' l'' : List ℕ} {e : Event} {r r' : Result Answer Refusal} → Tried l e r l' → Tried l e r' l'' → (r ≡ r') × (l' ∷ [] ≡ l'' ∷ [])
one_tried x y = (same_told x.answer y.answer, buffer x.image y.image)

pub one_device_clock : OneOutcome Rattle.device.proofs.clock.Reads.Learnt (λ e. e.0.now ∷ [])
one_device_clock κs a r r' e e' = one_tried

pub one_device_card_in : OneOutcome Rattle.device.proofs.card_in.Reads.Learnt (λ e. e.0.now ∷ [])
one_device_card_in κs a r r' e e' = one_tried

pub one_device_card_out : OneOutcome Rattle.device.proofs.card_out.Reads.Learnt (λ e. e.0.now ∷ [])
one_device_card_out κs a r r' e e' = one_tried

pub one_device_power_up : OneOutcome Rattle.device.proofs.power_up.Reads.Learnt (λ e. e.0.now ∷ [])
one_device_power_up κs a r r' e e' = one_tried

pub one_certificates_install_certificate : OneOutcome Rattle.certificates.proofs.install_certificate.Reads.Learnt (λ e. e.0.now ∷ [])
one_certificates_install_certificate κs a r r' e e' = one_tried

pub one_certificates_delete_certificate : OneOutcome Rattle.certificates.proofs.delete_certificate.Reads.Learnt (λ e. e.0.now ∷ [])
one_certificates_delete_certificate κs a r r' e e' = one_tried

pub one_certificates_mark_valid : OneOutcome Rattle.certificates.proofs.mark_valid.Reads.Learnt (λ e. e.0.now ∷ [])
one_certificates_mark_valid κs a r r' e e' = one_tried

pub one_certificates_mark_invalid : OneOutcome Rattle.certificates.proofs.mark_invalid.Reads.Learnt (λ e. e.0.now ∷ [])
one_certificates_mark_invalid κs a r r' e e' = one_tried

pub one_certificates_replace : OneOutcome Rattle.certificates.proofs.replace.Reads.Learnt (λ e. e.0.now ∷ [])
one_certificates_replace κs a r r' e e' = one_tried

pub one_certificates_message : OneOutcome Rattle.certificates.proofs.message.Reads.Learnt (λ e. e.0.now ∷ [])
one_certificates_message κs a r r' e e' = one_tried

pub one_executables_install_executable : OneOutcome Rattle.executables.proofs.install_executable.Reads.Learnt (λ e. e.0.now ∷ [])
one_executables_install_executable κs a r r' e e' = one_tried

pub one_executables_delete_executable : OneOutcome Rattle.executables.proofs.delete_executable.Reads.Learnt (λ e. e.0.now ∷ [])
one_executables_delete_executable κs a r r' e e' = one_tried

pub one_executables_verify : OneOutcome Rattle.executables.proofs.verify.Reads.Learnt (λ e. e.0.now ∷ [])
one_executables_verify κs a r r' e e' = one_tried

pub one_executables_give : OneOutcome Rattle.executables.proofs.give.Reads.Learnt (λ e. e.0.now ∷ [])
one_executables_give κs a r r' e e' = one_tried

pub one_executables_withdraw : OneOutcome Rattle.executables.proofs.withdraw.Reads.Learnt (λ e. e.0.now ∷ [])
one_executables_withdraw κs a r r' e e' = one_tried

pub one_executables_request : OneResult Rattle.executables.proofs.request.Reads.Learnt
one_executables_request κs a r r' e e' x y = same_told x.answer y.answer

-- ==== events: the answer and the image

one_stepped : {l v l' l'' : List ℕ} {r r' : Answer} → Stepped l v r l' → Stepped l v r' l'' → (r ≡ r') × (l' ∷ [] ≡ l'' ∷ [])
one_stepped x y = (returned x.answer y.answer, buffer x.image y.image)

pub one_events_step_accepted : OneOutcome Rattle.events.proofs.step_accepted.Reads.Learnt (λ e. e.0.now ∷ [])
one_events_step_accepted κs a r r' e e' x y = one_stepped x.stepped y.stepped

pub one_events_step : OneOutcome Rattle.events.proofs.step.Reads.Learnt (λ e. e.0.now ∷ [])
one_events_step κs a r r' e e' = one_stepped

-- ==== reasons: the answer, and the buffer of lines

pub one_reasons_explain : OneOutcome Rattle.reasons.proofs.explain.Reads.Learnt (λ e. e.1.1.0.now ∷ [])
one_reasons_explain κs a r r' e e' x y = (returned x.answer y.answer, buffer x.told y.told)

-- ==== timeline: the number of events or the answer, and the buffer of events

pub one_timeline_unroll : OneOutcome Rattle.timeline.proofs.unroll.Reads.Learnt (λ e. e.1.1.0.now ∷ [])
one_timeline_unroll κs a r r' e e' x y = (returned x.answer y.answer, buffer x.events y.events)

-- ==== monitor: the answer as a number and the image; the count, the image and the buffer of answers; the answer and the buffer of lines; the answer
-- and the buffer of events

pub one_monitor_step : OneOutcome Rattle.monitor.proofs.monitor_step.Reads.Learnt (λ e. e.0.now ∷ [])
one_monitor_step κs a r r' e e' x y = (returned x.answer y.answer, buffer x.image y.image)

-- `follow`
pub one_followed : {l b out l' l'' out' out'' : List ℕ} {n : ℕ} → Followed l b out n l' out' → Followed l b out n l'' out'' → (l' ≡ l'') × (out' ≡ out'')
one_followed x y = (returned x.image y.image, returned x.told y.told)

pub one_monitor_run : OneOutcome Rattle.monitor.proofs.monitor_run.Reads.Learnt (λ e. e.0.now ∷ e.1.1.0.now ∷ [])
one_monitor_run κs a r r' e e' x y =
    let count = returned x.count y.count in
    let same = subst (λ n. Followed a.0.now a.1.0.now a.1.1.0.now n e'.0.now e'.1.1.0.now) (sym count) y.followed in
    let f = one_followed x.followed same in
    (count, ap (λ l. l ∷ e.1.1.0.now ∷ []) f.0 ∙ ap (λ out. e'.0.now ∷ out ∷ []) f.1)

pub one_monitor_why : OneOutcome Rattle.monitor.proofs.monitor_why.Reads.Learnt (λ e. e.1.1.0.now ∷ [])
one_monitor_why κs a r r' e e' x y = (returned x.answer y.answer, buffer x.told y.told)

pub one_monitor_timeline : OneOutcome Rattle.monitor.proofs.monitor_timeline.Reads.Learnt (λ e. e.1.1.0.now ∷ [])
one_monitor_timeline κs a r r' e e' x y = (returned x.answer y.answer, buffer x.events y.events)

-- ==== stream: the buffer, and the place behind what was put

pub one_stream_put_number : OneOutcome Rattle.stream.proofs.put_number.Reads.Learnt (λ e. e.0.now ∷ [])
one_stream_put_number κs a r r' e e' x y = (returned x.1 y.1, buffer x.0 y.0)

pub one_stream_put_refusal : OneOutcome Rattle.stream.proofs.put_refusal.Reads.Learnt (λ e. e.0.now ∷ [])
one_stream_put_refusal κs a r r' e e' x y = (returned x.1 y.1, buffer x.0 y.0)

pub one_stream_put_heading : OneOutcome Rattle.stream.proofs.put_heading.Reads.Learnt (λ e. e.0.now ∷ [])
one_stream_put_heading κs a r r' e e' x y = (returned x.1 y.1, buffer x.0 y.0)

pub one_stream_put_line : OneOutcome Rattle.stream.proofs.put_line.Reads.Learnt (λ e. e.0.now ∷ [])
one_stream_put_line κs a r r' e e' x y = (returned x.1 y.1, buffer x.0 y.0)

pub one_stream_add_line : OneOutcome Rattle.stream.proofs.add_line.Reads.Learnt (λ e. e.0.now ∷ [])
one_stream_add_line κs a r r' e e' x y = (returned x.1 y.1, buffer x.0 y.0)

-- ==== differences: whether two images differ, and two texts of answers

one_differ : {a b : List ℕ} (r r' : Bool) → Differ a b r → Differ a b r' → r ≡ r'
one_differ true true x y = refl
one_differ false false x y = refl
one_differ true false x y = absurd (x.other refl (y.same refl))
one_differ false true x y = absurd (y.other refl (x.same refl))

pub one_differences_image_differs : OneResult Rattle.differences.proofs.Case.image_differs.Reads.Learnt
one_differences_image_differs κs a r r' e e' = one_differ r r'

pub one_differences_answers_differ : OneResult Rattle.differences.proofs.Case.answers_differ.Reads.Learnt
one_differences_answers_differ κs a r r' e e' = one_differ r r'

-- ==== differences: the first place of a byte, since no two places are the first

pub one_differences_find : OneResult Rattle.differences.proofs.find.Reads.Learnt
one_differences_find κs a r r' e e' x y =
    elim (dec_lt r r') [
      | yes h ↦ absurd (y.1.1.0 r x.0 h (x.1.1.1 (omega (arith, y.1.0))))
      | no h ↦ elim (dec_lt r' r) [
        | yes k ↦ absurd (x.1.1.0 r' y.0 k (y.1.1.1 (omega (arith, x.1.0))))
        | no k ↦ omega arith
      ]
    ]
