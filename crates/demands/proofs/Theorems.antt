-- THE THEOREMS. Each sentence of the three demands, and of 02's items 1, 4, 5 and 7, with its statement; the files cited hold the arguments. Assumes nothing.
-- l is an image and v an event, both any bytes; vs is a run of events, refused ones among them.
-- What the statements speak of: `step`, `run` (rules, specs/Step), `code`, `rows` (specs/Codes), `accepted` (specs/ImageRules),
-- `grants` (specs/Demands), `ChainWithin`, `Shortest` (specs/Explicit), here specs/Runs, MayTouch, RecoveryKeys and Owners, and `event_of`,
-- `key_named`, `phone_after` (keeping, specs/OneEvent); of a fault: `fault`, `fault_offset` (rules, specs/Faults), `LowestAt`, `WrongField`
-- (specs/Named).
use Prim.Native.Nat.{ℕ, suc, ◌≤◌, ◌<◌}
use mathlib.Core.{Bool.{true, false}, List.{List, Memᴰ}, Logic.{◌≢◌, ◌⊎◌, ◌↔◌}, Path.{◌≡◌, ap, ◌∙◌, subst}}
use native.Mathlib.Omega.{arith}
use lib.{Dec.T, ListN.{length, get_or}}
use Rattle.records.specs.{Sizes.header_size, Layout.{certificate_read, card_read, executable_read, row_read}}
use Rattle.records.specs.{Phone.{Trust, Phone, decode, encode, certificate_at, card_at, executable_at, row_at}, Frame.framed, declared.Certificate.Certificate}
use Rattle.records.specs.declared.Event.{Event}
use Rattle.records.proofs.RoundTrip.{decode_encode}
use Rattle.rules.specs.{declared.Site.Site, Words.{at, all}, Actors.somebody, Chains.{valid_root, trusted_root, good, most_links}}
use Rattle.rules.specs.Explicit.{Chain, ChainWithin, Shortest}
use Rattle.rules.specs.ImageRules.{i2, i4, i5, row_fits, i7, i8, accepted, «open», cards_fit, present_known, places_known}
use Rattle.rules.specs.Faults.{of_certificates, of_executables, at_rule, no_fault, fault, fault_offset}
use Rattle.rules.specs.FaultNames.{rules, is_right, i1_fields, WrongField, LowestAt, WrongCard, Within}
use Rattle.rules.specs.{Codes.{has_id, makes_valid, certificate_named, executable_named, rows, code}, Effects.{replaced, changed}}
use Rattle.rules.specs.{Step.{refused_at, refusal, step, run}, Demands.{grants, withdrawing, giving}}
use Rattle.laws.proofs.{Tests.eq→eqb, Accepts.accepted_out, Shortest.chain_chains}
use Rattle.laws.proofs.Domain as Domain
use Rattle.laws.proofs.Where as Where
use Rattle.demands.specs.{Runs.{Applies, WithdrawingRun, GivingRun, verified, ValidOperator, Granted}, MayTouch.FramedChange}
use Rattle.demands.specs.{RecoveryKeys.{RecoveryFits, Replaces}, Owners.{OwnerKept, AsOwner, AsOwners}}
use Rattle.keeping.specs.OneEvent.{event_of, key_named, phone_after}
use Rattle.demands.proofs.{LowestRow.{first_applies, first_lowest}, TouchNoMore.framed_changed, Grant.granted_exact}
use Rattle.keeping.proofs.Bytes
use Rattle.keeping.proofs.EventAnswers
use Rattle.keeping.proofs.AcceptedKept.{one_operator}
use Rattle.demands.proofs.Demand3
use Rattle.demands.proofs.Recovering
use Rattle.demands.proofs.Dated
use Rattle.demands.proofs.Owned

-- ==== Demand 1: any image and any event gets one answer from the table

module _ (l v : List ℕ) where
  -- "The answer is code, domain, links."
  pub answer_code : (step l v).answer.code ≡ code l v
  answer_code = EventAnswers.answer_code l v

  -- "Given exactly when", "The lowest that applies is given": a code that is given applies
  pub code_applies : code l v ≢ 0 → Applies (code l v) (rows l v)
  unfolding code
  code_applies h = first_applies (rows l v) h

  -- and where one applies, a code is given that is no higher
  pub code_lowest : (n : ℕ) → Applies n (rows l v) → (code l v ≢ 0) × (code l v ≤ n)
  unfolding code
  code_lowest n h = let f = first_lowest 1 tt h in (omega arith, omega arith)

  -- "Every code other than 0 gives domain 0 and links 0 and leaves the image unchanged.": what else is told, `refusal`, is of 02
  pub refused_quiet : code l v ≢ 0 → ((step l v).answer.domain ≡ 0) × ((step l v).answer.links ≡ 0)
  refused_quiet h = EventAnswers.refused_quiet l v h

  pub refused_unchanged : code l v ≢ 0 → step l v ≡ record { answer = refusal l (code l v); image = l }
  refused_unchanged h = Bytes.step_refused l v h

  -- "Domain and links are non-zero only for code 0 of verify and request"
  pub quiet : (event_of v).kind ≢ 12 → (event_of v).kind ≢ 15 → ((step l v).answer.domain ≡ 0) × ((step l v).answer.links ≡ 0)
  quiet a b = EventAnswers.answer_quiet l v a b

  -- "the executable's domain, and its link count if that domain is not 0"
  pub domain_told : code l v ≡ 0 → ((event_of v).kind ≡ 12) ⊎ ((event_of v).kind ≡ 15)
      → (step l v).answer.domain ≡ (executable_named (phone_after l v) (event_of v).id).domain
  domain_told h k = EventAnswers.answer_domain l v h k

  pub no_domain_no_links : (step l v).answer.domain ≡ 0 → (step l v).answer.links ≡ 0
  no_domain_no_links z = EventAnswers.answer_none l v z

  -- no event makes an image longer or shorter, whatever l and v are
  pub length_kept : length (step l v).image ≡ length l
  length_kept = Bytes.length_step l v

pub length_kept_run : (l : List ℕ) (vs : List (List ℕ)) → length (run l vs) ≡ length l
length_kept_run l vs = Bytes.length_run vs l

-- "opening an image answers 0 or 1": 0 exactly if it is accepted
pub open_accepts : (l : List ℕ) → ((«open» l ≡ 0) ↔ (accepted l ≡ true)) × ((«open» l ≡ 0) ⊎ («open» l ≡ 1))
unfolding «open»
open_accepts l = EventAnswers.opened (accepted l)

-- ==== Demand 2: each event does exactly what 01 says, and an accepted image stays accepted

module _ (l v : List ℕ) where
  -- the image after every event from the image before it
  pub event_exact : code l v ≡ 0 → (step l v).image ≡ encode (changed (event_of v) (decode l))
  event_exact h = ap (λ o. o.image) (Bytes.step_done l v h)

  -- and it says the phone that the rules make of the phone before
  pub event_phone : code l v ≡ 0 → phone_after l v ≡ changed (event_of v) (decode l)
  event_phone h = ap decode (event_exact h) ∙ decode_encode (changed (event_of v) (decode l))

  -- and all else is kept
  pub event_frame : code l v ≡ 0 → FramedChange (event_of v) (decode l) (phone_after l v)
  event_frame h = rw (event_phone h) (framed_changed (event_of v) (decode l) (eq→eqb _ 0 (Bytes.code_whole_out l v h).code))

  -- "No rule marks a key valid by itself.": a slot that is valid was valid before, or this event is "mark valid" or "replace" of its id, or an install
  -- into it
  pub no_mark_by_itself : (i : ℕ) → (certificate_at (phone_after l v) i).mark ≡ 1
      → ((certificate_at (decode l) i).mark ≡ 1)
      ⊎ (T (makes_valid (event_of v).kind) × ((certificate_at (decode l) i).id ≡ (event_of v).id))
      ⊎ (((event_of v).kind ≡ 5) × ((certificate_at (decode l) i).id ≡ 0))
  no_mark_by_itself i h = Bytes.marks_step l v i h

  -- "A request changes nothing.": not a byte of an image of bytes
  pub request_changes_nothing : ((i : ℕ) → get_or l i 0 < 256) → (event_of v).kind ≡ 15 → (step l v).image ≡ l
  request_changes_nothing b k = Bytes.request_step l v b k

  -- and not what an image says, whatever numbers stand in it
  pub request_keeps_phone : (event_of v).kind ≡ 15 → phone_after l v ≡ decode l
  request_keeps_phone k = Bytes.request_phone l v k

  -- "I1–I8" hold after every event
  pub accepted_kept : accepted l ≡ true → accepted (step l v).image ≡ true
  accepted_kept ok = Bytes.accepted_step l v ok

  -- a domain exactly if a chain of at most four exists
  pub verify_exact : code l v ≡ 0 → (event_of v).kind ≡ 12 → (d : ℕ) → d ≢ 0
      → ((step l v).answer.domain ≡ d) ↔ ((key_named l v ≢ 0) × ChainWithin most_links (phone_after l v).trust d (key_named l v))
  verify_exact h i d nz = EventAnswers.verify_exact l v h i d nz

  -- the answer gives the shortest length
  pub count_shortest : code l v ≡ 0 → ((event_of v).kind ≡ 12) ⊎ ((event_of v).kind ≡ 15) → (step l v).answer.domain ≢ 0
      → ((step l v).answer.links ≢ 0)
      × ((step l v).answer.links ≤ most_links)
      × Shortest (phone_after l v).trust (step l v).answer.domain (key_named l v) (step l v).answer.links
  count_shortest h k = EventAnswers.count_shortest l v h k

module _ (l : List ℕ) (ok : accepted l ≡ true) where
  -- I1–I8 hold after every run
  pub accepted_kept_run : (vs : List (List ℕ)) → accepted (run l vs) ≡ true
  accepted_kept_run vs = Bytes.accepted_run vs l ok

  -- at most one valid operator root is ever present
  pub one_valid_operator : (vs : List (List ℕ)) (c e : Certificate) → ValidOperator (decode (run l vs)) c → ValidOperator (decode (run l vs)) e → c ≡ e
  one_valid_operator vs c e m n =
      one_operator (decode (run l vs)) (accepted_out (run l vs) (accepted_kept_run vs)).1 c e m.stored n.stored m.valid n.valid
      m.present n.present

  -- "I4 makes d unique"
  pub one_domain : (k d f : ℕ) → k ≢ 0 → ChainWithin most_links (decode l).trust d k → ChainWithin most_links (decode l).trust f k → d ≡ f
  one_domain k d f nz a b =
      let t = (decode l).trust in
      Domain.one_domain t (accepted_out l ok).1.trust.held.keys k d f (chain_chains t k d nz a) (chain_chains t k f nz b)

  -- a grant exactly where a chain and a table byte say so
  pub grants_exact : (n a : ℕ) → T (grants l n a) ↔ Granted (decode l) n a
  grants_exact n a = rw (Demand3.grants_is l ok n a) (granted_exact (decode l) (accepted_out l ok).1 n a)

-- ==== Demand 3: of the state that any events, `before`, have led to, and of any run vs from there on, in which whatever is refused may stand

module _ (l : List ℕ) (ok : accepted l ≡ true) (before vs : List (List ℕ)) where
  -- after withdrawing nothing refused is granted
  pub withdrawing_grants_nothing : WithdrawingRun (run l before) vs → (n a : ℕ) → T (grants (run (run l before) vs) n a) → T (grants (run l before) n a)
  withdrawing_grants_nothing w = Demand3.withdrawing_grants_nothing (run l before) (accepted_kept_run l ok before) vs w

  -- after giving nothing granted is refused
  pub giving_refuses_nothing : GivingRun (run l before) vs → (n a : ℕ) → T (grants (run l before) n a) → T (grants (run (run l before) vs) n a)
  giving_refuses_nothing g = Demand3.giving_refuses_nothing (run l before) (accepted_kept_run l ok before) vs g

  -- "both also where every application is verified just before each of the two requests": the run goes on from the state as it was
  pub withdrawing_grants_nothing_verified : WithdrawingRun (run l before) vs → (n a : ℕ)
      → T (grants (verified (run (run l before) vs)) n a) → T (grants (verified (run l before)) n a)
  withdrawing_grants_nothing_verified w = Demand3.withdrawing_grants_nothing_verified (run l before) (accepted_kept_run l ok before) vs w

  pub giving_refuses_nothing_verified : GivingRun (run l before) vs → (n a : ℕ)
      → T (grants (verified (run l before)) n a) → T (grants (verified (run (run l before) vs)) n a)
  giving_refuses_nothing_verified g = Demand3.giving_refuses_nothing_verified (run l before) (accepted_kept_run l ok before) vs g

  -- the same read along time: the run goes on from the state in which the first request was made, every application verified
  pub withdrawing_grants_nothing_from_verified : WithdrawingRun (verified (run l before)) vs → (n a : ℕ)
      → T (grants (verified (run (verified (run l before)) vs)) n a) → T (grants (verified (run l before)) n a)
  withdrawing_grants_nothing_from_verified w = Demand3.withdrawing_grants_nothing_from_verified (run l before) (accepted_kept_run l ok before) vs w

  pub giving_refuses_nothing_from_verified : GivingRun (verified (run l before)) vs → (n a : ℕ)
      → T (grants (verified (run l before)) n a) → T (grants (verified (run (verified (run l before)) vs)) n a)
  giving_refuses_nothing_from_verified g = Demand3.giving_refuses_nothing_from_verified (run l before) (accepted_kept_run l ok before) vs g

-- on an accepted image verifying every application twice is verifying it once
pub verified_again : (l : List ℕ) → accepted l ≡ true → verified (verified l) ≡ verified l
verified_again l ok = Demand3.verified_again l ok

-- ==== 02, item 1: say where an image is wrong

module _ (l v : List ℕ) where
  -- "code 1 as before": it is given exactly if the image is not accepted
  pub code_one : (code l v ≡ 1) ↔ (accepted l ≡ false)
  code_one = Bytes.code_one l v

  -- "any step on a bad one, should also tell the first broken rule, 1 to 8, and a byte offset"
  pub told_where : code l v ≡ 1 → (step l v).answer ≡ refused_at l
  told_where h = EventAnswers.told_where l v h

  -- "the answer gains two numbers, 0 for other codes"
  pub told_no_fault : code l v ≢ 1 → ((step l v).answer.rule ≡ 0) × ((step l v).answer.offset ≡ 0)
  told_no_fault h = EventAnswers.told_no_fault l v h

module _ (l : List ℕ) where
  -- no fault exactly if accepted, and the number told shows it
  pub faultless : (accepted l ≡ true) ↔ (fault l ≡ no_fault)
  faultless = (Where.accepted_no_fault l, λ e. Where.no_fault_accepted l (ap (λ f. f.rule) e))

  pub rule_zero : (accepted l ≡ true) ↔ ((fault l).rule ≡ 0)
  rule_zero = (λ h. ap (λ f. f.rule) (Where.accepted_no_fault l h), Where.no_fault_accepted l)

  -- "the first broken rule, 1 to 8": the rules before the named one hold, and that one does not
  pub fault_first : (n : ℕ) → (fault l).rule ≡ suc n → (get_or (rules l) n true ≡ false) × ((k : ℕ) → k < n → get_or (rules l) k false ≡ true)
  fault_first n e = Where.fault_first l n e

  pub rule_known : (fault l).rule ≤ 8
  rule_known = Where.rule_known l

  -- two bytes of an answer hold the offset
  pub offset_small : fault_offset l < 65536
  offset_small = Where.offset_small l

  -- "A buffer shorter than 40 bytes gives rule 1 and its length."
  pub short_buffer : length l < header_size → fault l ≡ at_rule 1 (Site.Header (length l))
  short_buffer h = Where.short_buffer l h

  -- I1 asks of any other that each of its fields is right
  pub right_fields : header_size ≤ length l → framed l ≡ all is_right (i1_fields l)
  right_fields h = Where.right_fields l h

  -- "for I1 the first header byte of the first wrong field"
  pub wrong_field : (fault l).rule ≡ 1 → header_size ≤ length l → WrongField (i1_fields l) (fault_offset l)
  wrong_field e h = rw (Where.wrong_i1 l e) (Where.wrong_field l (Where.fault_first l 0 e).0 h)

  -- "for I2 to I8 the first byte of the lowest record (or table row) that breaks the rule alone or together with lower ones":
  -- those below the one named keep the rule, and together with it they break it
  pub wrong_i2 : (fault l).rule ≡ 2 → LowestAt (of_certificates i2 (decode l)) (decode l).trust.certificates Site.Certificate (fault l).site
  wrong_i2 e = Where.wrong_i2 l e

  pub wrong_i4 : (fault l).rule ≡ 4 → LowestAt (of_certificates i4 (decode l)) (decode l).trust.certificates Site.Certificate (fault l).site
  wrong_i4 e = Where.wrong_i4 l e

  pub wrong_i5 : (fault l).rule ≡ 5 → LowestAt (of_certificates i5 (decode l)) (decode l).trust.certificates Site.Certificate (fault l).site
  wrong_i5 e = Where.wrong_i5 l e

  pub wrong_i6 : (fault l).rule ≡ 6 → LowestAt (all row_fits) (decode l).table Site.Row (fault l).site
  wrong_i6 e = Where.wrong_i6 l e

  pub wrong_i7 : (fault l).rule ≡ 7 → LowestAt (of_executables i7 (decode l)) (decode l).executables Site.Executable (fault l).site
  wrong_i7 e = Where.wrong_i7 l e

  pub wrong_i8 : (fault l).rule ≡ 8 → LowestAt (of_executables i8 (decode l)) (decode l).executables Site.Executable (fault l).site
  wrong_i8 e = Where.wrong_i8 l e

  -- of I3 it is one of three: byte 12, a certificate by its place, a card
  pub wrong_i3 : (fault l).rule ≡ 3 → WrongCard l (fault l).site
  wrong_i3 e = Where.wrong_i3 l e

  -- "For card present missing from the table, I3 names byte 12 before any record."
  pub present_first : (fault l).rule ≡ 3 → present_known (decode l) ≡ false → (fault l).site ≡ Site.Header 12
  present_first e a = Where.present_first l e a

  -- and then the certificates, which stand below the cards
  pub places_next : (fault l).rule ≡ 3 → present_known (decode l) ≡ true → places_known (decode l).cards (decode l).trust.certificates ≡ false
      → LowestAt (places_known (decode l).cards) (decode l).trust.certificates Site.Certificate (fault l).site
  places_next e a b = Where.places_next l e a b

  pub cards_last : (fault l).rule ≡ 3 → present_known (decode l) ≡ true → places_known (decode l).cards (decode l).trust.certificates ≡ true
      → LowestAt cards_fit (decode l).cards Site.Card (fault l).site
  cards_last e a b = Where.cards_last l e a b

  -- "the first byte of the lowest record (or table row)": the one named is what is read from the offset told
  pub certificate_begins : (i : ℕ) → (fault l).site ≡ Site.Certificate i → certificate_at (decode l) i ≡ certificate_read l (fault_offset l)
  certificate_begins i e = rw e (Where.certificate_begins l i (subst (Within l) e (Where.fault_within l)).1)

  pub card_begins : (i : ℕ) → (fault l).site ≡ Site.Card i → card_at (decode l) i ≡ card_read l (fault_offset l)
  card_begins i e = rw e (Where.card_begins l i (subst (Within l) e (Where.fault_within l)).1)

  pub executable_begins : (i : ℕ) → (fault l).site ≡ Site.Executable i → executable_at (decode l) i ≡ executable_read l (fault_offset l)
  executable_begins i e = rw e (Where.executable_begins l i (subst (Within l) e (Where.fault_within l)).1)

  pub row_begins : (i : ℕ) → (fault l).site ≡ Site.Row i → row_at (decode l) i ≡ row_read l (fault_offset l)
  row_begins i e = rw e (Where.row_begins l i (subst (Within l) e (Where.fault_within l)).1)

-- ==== 02, item 4: recovery keys

-- "it is never a trusted root and never a link": no chain, to any domain and from any key, has one
pub recovery_in_no_chain : (t : Trust) (d k : ℕ) (records : List Certificate) → Chain t d k records
    → (c : Certificate) → Memᴰ c records → c.kind ≢ 2
recovery_in_no_chain t d k records h c m q = Recovering.in_no_chain t d h c m q

-- and so it makes no record good, within any number of links
pub recovery_never_good : (n : ℕ) (t : Trust) (c : Certificate) → c.kind ≡ 2 → good n t c ≡ false
recovery_never_good n t c q = Recovering.never_good n t c q

module _ (l : List ℕ) (ok : accepted l ≡ true) (vs : List (List ℕ)) where
  -- "phone only, domain 1 or 2, verifying key 0, mark 0, enabled 1", whatever happened since the image was accepted
  pub recovery_fits : (c : Certificate) → Memᴰ c (decode (run l vs)).trust.certificates → c.kind ≡ 2 → RecoveryFits c
  recovery_fits c m q = Recovering.as_asked (decode (run l vs)) (accepted_out (run l vs) (accepted_kept_run l ok vs)).1 c m q

module _ (l v : List ℕ) (done : code l v ≡ 0) (replace : (event_of v).kind ≡ 16) where
  -- "allowed to the actor of the domain of id's record, and to nobody where either record is a third party one"; 23.057 "forbids using it to replace a
  -- root of another owner"; "second is no recovery record, either record is not on the phone, domains or owners (the event's included) differ, or the
  -- verifying key is not the recovery key": of a replace that is done none of these is so
  pub replaces_its_own : Replaces (event_of v) (certificate_named (decode l) (event_of v).id) (certificate_named (decode l) (event_of v).second)
  replaces_its_own = Recovering.replaces (decode l) (event_of v) replace (eq→eqb _ 0 (Bytes.code_whole_out l v done).code)

  -- "The root keeps its id and slot, takes the new key, owner and expiry, and is marked valid.": and every other slot is as it was
  pub replace_exact : (i : ℕ) → certificate_at (phone_after l v) i ≡ at (has_id (event_of v).id) (replaced (event_of v)) (certificate_at (decode l) i)
  replace_exact i =
      rw (event_phone l v done)
      (Recovering.replaced_slots (decode l) (event_of v) replace (eq→eqb _ 0 (Bytes.code_whole_out l v done).code) i)

-- "It belongs to neither list of demand 3.", whatever phone it meets; `gaining` and `losing` (Examples) have a replace that breaks each claim
pub replace_in_neither : (p : Phone) (e : Event) → e.kind ≡ 16 → (withdrawing p e ≡ false) × (giving p e ≡ false)
replace_in_neither p e k = Recovering.in_neither p e k

-- ==== 02, item 5: roots have a date as well

-- "A trusted root now also needs clock ≤ expiry"
pub trusted_in_date : (t : Trust) (c : Certificate) → T (trusted_root t.seen c) → t.seen.clock ≤ c.expiry
trusted_in_date t c h = Dated.trusted_in_date t c h

-- "\"valid\" in demand 2, I5, the card rule and code 13 means marked valid and not past its date": all four ask `valid_root`
pub valid_means : (clock : ℕ) (c : Certificate) → T (valid_root clock c) ↔ ((c.kind ≡ 0) × (c.mark ≡ 1) × (clock ≤ c.expiry))
valid_means clock c = Dated.valid_means clock c

-- "Marks are not touched when a date passes.": a clock event leaves every certificate as it is
pub clock_keeps_certificates : (l v : List ℕ) → code l v ≡ 0 → (event_of v).kind ≡ 1 → (phone_after l v).trust.certificates ≡ (decode l).trust.certificates
clock_keeps_certificates l v h k = rw (event_phone l v h) (Dated.clock_keeps (decode l) (event_of v) k)

-- ==== 02, item 7: an operator is somebody in particular

-- "For events 6 to 8 by an operator or a manufacturer, the owner field .. names who acts, and it must equal the certificate's owner"
pub acts_as_owner : (l v : List ℕ) → AsOwner l v
acts_as_owner l v h s = Owned.acts_as_owner (decode l) (event_of v) (eq→eqb _ 0 (Bytes.code_whole_out l v h).code) s

-- and so is every mark or deletion by one of them in any run, from any image
pub acts_as_owner_run : (l : List ℕ) (vs : List (List ℕ)) → AsOwners l vs
acts_as_owner_run = Owned.in_a_run acts_as_owner

-- "the second deleted the first one's keys": now a certificate of another owner is kept, but for the mark of a root past its date (`old_mark_taken`,
-- in Examples)
pub touches_its_own : (l v : List ℕ) → code l v ≡ 0 → T (somebody (event_of v)) → (i : ℕ)
    → OwnerKept (decode l).trust.seen.clock (event_of v) (certificate_at (decode l) i) (certificate_at (phone_after l v) i)
touches_its_own l v h s i =
    let w = Bytes.code_whole_out l v h in
    rw (event_phone l v h) (Owned.touches_its_own (decode l) (event_of v) (accepted_out l w.image).1.trust (eq→eqb _ 0 w.code) s i)
