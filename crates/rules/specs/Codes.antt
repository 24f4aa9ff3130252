-- 01, "What an event is told": a test for each code, and their order. Definitions only.
use Rattle.std.specs.Prelude.{ℕ}
use mathlib.Core.{Bool.{Bool, cond, not, ◌&&◌, ◌||◌}, List.{List, [], ◌∷◌}}
use lib.{Dec.{eqb, ltb}, ListN.length}
use Rattle.bits.specs.Bits.{has_bit}
use Rattle.records.specs.{Sizes.event_size, Layout.{row_byte, event_read}, Phone.{Seen, Phone, decode, no_certificate, no_executable, row_at}}
use Rattle.records.specs.{declared.Certificate.Certificate, declared.Executable.Executable, declared.Event.Event}
use Rattle.rules.specs.{Words.{between, any, find, Check, ◌⇒◌, first}, Chains.{present, in_date, valid_root}}
use Rattle.rules.specs.ImageRules.{accepted, free_certificate, free_executable, known_place, operator_of, operator_root, third_party_root}
use Rattle.rules.specs.{Actors.{may_act, acts_for}, Forms.{new_certificate, listed, malformed}}

-- ---- the records that an event names

abbrev pub has_id : ℕ → Certificate → Bool
has_id n c = eqb c.id n

abbrev pub is_executable : ℕ → Executable → Bool
is_executable n x = eqb x.id n

unfoldable pub certificate_named : Phone → ℕ → Certificate
certificate_named p n = find (has_id n) no_certificate p.trust.certificates

unfoldable pub executable_named : Phone → ℕ → Executable
executable_named p n = find (is_executable n) no_executable p.executables

unfoldable pub certificate_known : Phone → ℕ → Bool
certificate_known p n = any (has_id n) p.trust.certificates

unfoldable pub executable_known : Phone → ℕ → Bool
executable_known p n = any (is_executable n) p.executables

-- the kinds whose id is a certificate's: 6–8, and 16, "id = root"
abbrev pub names_certificate : ℕ → Bool
names_certificate k = between 6 8 k || eqb k 16

-- mark valid, and what is refused "as for mark valid": replace, by which a root "is marked valid" too
abbrev pub makes_valid : ℕ → Bool
makes_valid k = eqb k 7 || eqb k 16

-- the certificate that kinds 5–8 and 16 are about: the one to install, or the one named
unfoldable pub subject : Phone → Event → Certificate
subject p e =
    cond (eqb e.kind 5) (new_certificate p.mode e)
    (cond (names_certificate e.kind) (certificate_named p e.id) no_certificate)

-- kind 16: "second = recovery record"
unfoldable pub recovery_named : Phone → Event → Certificate
recovery_named p e = certificate_named p e.second

-- ---- a test for each code; where a record is missing, code 3 stands before

-- 3: "kinds 6–8, 11–15: id unknown; kind 9: a listed id unknown"; of 16 "either id"
unfoldable pub id_unknown : Phone → Event → Bool
id_unknown p e =
    (names_certificate e.kind && not (certificate_known p e.id))
    || (between 11 15 e.kind && not (executable_known p e.id))
    || (eqb e.kind 9 && any (λ n. not (certificate_known p n)) (listed e))
    || (eqb e.kind 16 && not (certificate_known p e.second))

-- 4: "actor not allowed"; 16 is allowed "to nobody where either record is a third party one"
unfoldable pub actor_barred : Phone → Event → Bool
actor_barred p e =
    not (may_act e.kind (subject p e).domain e.actor && acts_for e (subject p e))
    || (eqb e.kind 16 && eqb (recovery_named p e).domain 3)

-- 5: "new time below the clock (equal is done)"
unfoldable pub time_back : Phone → Event → Bool
time_back p e = eqb e.kind 1 && ltb e.key p.trust.seen.clock

-- 6: "a card or install place that is not 0 and is not in the card table"
unfoldable pub card_unknown : Phone → Event → Bool
card_unknown p e =
    (eqb e.kind 2 || eqb e.kind 4 || eqb e.kind 5) && not (known_place p.cards e.second)

-- 7: "card in with one present; card out with none"
unfoldable pub card_wrong : Phone → Event → Bool
card_wrong p e =
    (eqb e.kind 2 && not (eqb p.trust.seen.card 0)) || (eqb e.kind 3 && eqb p.trust.seen.card 0)

-- 8: "install, delete or mark on a card not present", and of 16 a root there
unfoldable pub card_away : Phone → Event → Bool
card_away p e = (eqb e.kind 5 || names_certificate e.kind) && not (present p.trust.seen (subject p e))

-- 9: "install: id taken in the same table"
unfoldable pub id_taken : Phone → Event → Bool
id_taken p e =
    (eqb e.kind 5 && certificate_known p e.id) || (eqb e.kind 10 && executable_known p e.id)

-- "a certificate of another domain has this key"
abbrev pub in_another : ℕ → ℕ → Certificate → Bool
in_another key domain c = eqb c.key key && not (eqb c.domain domain)

-- 10: that, of install certificate and of replace
unfoldable pub key_elsewhere : Phone → Event → Bool
key_elsewhere p e =
    (eqb e.kind 5 || eqb e.kind 16) && any (in_another e.key (subject p e).domain) p.trust.certificates

-- 11: "install of an operator root on a card of another operator"
unfoldable pub install_of_other : Phone → Event → Bool
install_of_other p e =
    eqb e.kind 5
    && operator_root (subject p e)
    && not (eqb e.second 0)
    && not (eqb e.owner (operator_of p.cards e.second))

-- 11: "mark valid of one on the phone while a card of another operator is present"; of 16 "by the owner that the root has before"
unfoldable pub mark_of_other : Phone → Event → Bool
mark_of_other p e =
    makes_valid e.kind
    && operator_root (subject p e)
    && eqb (subject p e).place 0
    && not (eqb p.trust.seen.card 0)
    && not (eqb (subject p e).owner (operator_of p.cards p.trust.seen.card))

-- 12: "marking an issued record", "marking a recovery record too", of 16 "id is no root"; "message lists one that is no third party root"
unfoldable pub no_such_root : Phone → Event → Bool
no_such_root p e =
    ((makes_valid e.kind || eqb e.kind 8) && not (eqb (subject p e).kind 0))
    || (eqb e.kind 9 && any (λ n. not (third_party_root (certificate_named p n))) (listed e))

-- 13: "while another is valid: manufacturer, any other; operator root on the phone, any other present; on a card, another on that card"
unfoldable pub rival : Seen → Certificate → Certificate → Bool
rival s c x =
    not (eqb x.id c.id)
    && valid_root s.clock x
    && eqb x.domain c.domain
    && (eqb c.domain 2 || (eqb c.domain 1 && cond (eqb c.place 0) (present s x) (eqb x.place c.place)))

-- 13: "mark valid"
unfoldable pub another_valid : Phone → Event → Bool
another_valid p e = makes_valid e.kind && any (rival p.trust.seen (subject p e)) p.trust.certificates

-- 14: "install: no free slot"
unfoldable pub no_free_slot : Phone → Event → Bool
no_free_slot p e =
    (eqb e.kind 5 && not (any free_certificate p.trust.certificates))
    || (eqb e.kind 10 && not (any free_executable p.executables))

-- "A request uses the executable's domain": the table byte for it
unfoldable pub table_byte : Phone → Event → ℕ
table_byte p e = row_byte (row_at p e.second) (executable_named p e.id).domain

-- 15: "request: table byte 0"
unfoldable pub never : Phone → Event → Bool
never p e = eqb e.kind 15 && eqb (table_byte p e) 0

-- "The user's permissions are held as one bit for each action": x has the permission for action a
abbrev pub has_permission : Executable → ℕ → Bool
has_permission x a = has_bit x.permissions a

-- 16: "request: table byte 1 and no permission"
unfoldable pub not_permitted : Phone → Event → Bool
not_permitted p e =
    eqb e.kind 15 && eqb (table_byte p e) 1 && not (has_permission (executable_named p e.id) e.second)

-- event e may replace root r by recovery record s: s is one, both are on the phone, of one domain and one owner, which the event names, and the
-- event's verifying key is the recovery key
unfoldable pub may_replace : Event → Certificate → Certificate → Bool
may_replace e r s =
    eqb s.kind 2
    && eqb s.place 0
    && eqb r.place 0
    && eqb r.domain s.domain
    && eqb r.owner s.owner
    && eqb e.owner r.owner
    && eqb e.verifying s.key

-- 17: "second is no recovery record, either record is not on the phone, domains or owners (the event's included) differ, or the verifying key is
-- not the recovery key"
unfoldable pub cannot_replace : Phone → Event → Bool
cannot_replace p e = eqb e.kind 16 && not (may_replace e (subject p e) (recovery_named p e))

-- 18: "mark valid or replace with an expiry below the clock": the root's own, and the event's
unfoldable pub out_of_date : Phone → Event → Bool
out_of_date p e =
    (eqb e.kind 7 && not (in_date p.trust.seen.clock (subject p e)))
    || (eqb e.kind 16 && ltb e.expiry p.trust.seen.clock)

-- ---- "The lowest that applies is given."

-- for an event of the right length on an accepted image
abbrev pub refusals : Phone → Event → List Check
refusals p e =
    (malformed p e ⇒ 2)
    ∷ (id_unknown p e ⇒ 3)
    ∷ (actor_barred p e ⇒ 4)
    ∷ (time_back p e ⇒ 5)
    ∷ (card_unknown p e ⇒ 6)
    ∷ (card_wrong p e ⇒ 7)
    ∷ (card_away p e ⇒ 8)
    ∷ (id_taken p e ⇒ 9)
    ∷ (key_elsewhere p e ⇒ 10)
    ∷ (install_of_other p e ⇒ 11)
    ∷ (mark_of_other p e ⇒ 11)
    ∷ (no_such_root p e ⇒ 12)
    ∷ (another_valid p e ⇒ 13)
    ∷ (no_free_slot p e ⇒ 14)
    ∷ (never p e ⇒ 15)
    ∷ (not_permitted p e ⇒ 16)
    ∷ (cannot_replace p e ⇒ 17)
    ∷ (out_of_date p e ⇒ 18)
    ∷ []

unfoldable pub code_of : Phone → Event → ℕ
code_of p e = first (refusals p e)

-- for any bytes of an event: 2 "event not 24 bytes"
abbrev pub event_rows : Phone → List ℕ → List Check
event_rows p v = (not (eqb (length v) event_size) ⇒ 2) ∷ refusals p (event_read v 0)

-- and of an image: 1 "image breaks a rule I1–I8"
abbrev pub rows : List ℕ → List ℕ → List Check
rows l v = (not (accepted l) ⇒ 1) ∷ event_rows (decode l) v

unfoldable pub code : List ℕ → List ℕ → ℕ
code l v = first (rows l v)
