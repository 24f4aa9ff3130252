-- 01, "Events": what an accepted event does to the phone. Definitions only.
use Rattle.std.specs.Prelude.{ℕ}
use mathlib.Core.{Bool.{Bool, cond, not, ◌&&◌, ◌||◌}, List.{List, [], ◌∷◌, map}}
use lib.{Dec.eqb, ListN.get_or}
use Rattle.bits.specs.Bits.{set_bit, clear_bit}
use Rattle.records.specs.Phone.{Trust, Phone, no_certificate, no_executable, with_clock, with_card, with_mode, with_certificates, with_executables, marked}
use Rattle.records.specs.Phone.{enabling, in_domain, permitted}
use Rattle.records.specs.{declared.Certificate.Certificate, declared.Executable.Executable, declared.Event.Event}
use Rattle.rules.specs.{Words.{any, at, change, fill}, Chains.{chains_to, chain_of}}
use Rattle.rules.specs.ImageRules.{free_certificate, free_executable, operator_of, operator_root, third_party_root, has_valid_operator}
use Rattle.rules.specs.{Forms.{new_certificate, listed}, Codes.{has_id, is_executable, certificate_named}}

-- an operator root on the phone
abbrev pub phone_operator_root : Certificate → Bool
phone_operator_root c = operator_root c && eqb c.place 0

-- one that is marked valid, past its date or not
abbrev pub marked_operator : Certificate → Bool
marked_operator c = phone_operator_root c && eqb c.mark 1

-- ---- the card rule

-- "if the present card has a valid-marked operator root, every operator root on the phone is marked invalid; otherwise every one on the phone whose
-- owner is not the card's operator is"
unfoldable pub retired : Phone → Certificate → Bool
retired p c =
    phone_operator_root c
    && (has_valid_operator p.trust p.trust.seen.card || not (eqb c.owner (operator_of p.cards p.trust.seen.card)))

unfoldable pub card_rule : Phone → Phone
card_rule p = with_certificates (change (retired p) (marked 0) p.trust.certificates) p

-- ---- the effect of each kind

-- 1: "key = new time"
unfoldable pub tick : Event → Phone → Phone
tick e p = with_clock e.key p

-- 2: "second = card; card rule"
unfoldable pub card_in : Event → Phone → Phone
card_in e p = card_rule (with_card e.second p)

-- 3: "no card present, no mark changes"
unfoldable pub card_out : Event → Phone → Phone
card_out e p = with_card 0 p

-- 4: "second = card or 0: it becomes the present one; card rule if not 0"
unfoldable pub power_up : Event → Phone → Phone
power_up e p = cond (eqb e.second 0) (card_out e p) (card_in e p)

-- 5: "Installing takes the lowest free slot; freed slots serve again."
unfoldable pub install_certificate : Event → Phone → Phone
install_certificate e p =
    with_certificates (fill free_certificate (new_certificate p.mode e) p.trust.certificates) p

-- 6: "id; slot zeroed"
unfoldable pub delete_certificate : Event → Phone → Phone
delete_certificate e p = with_certificates (change (has_id e.id) (λ c. no_certificate) p.trust.certificates) p

-- "Marking a card's operator root valid marks all on the phone invalid."
unfoldable pub on_a_card : Certificate → Bool
on_a_card c = operator_root c && not (eqb c.place 0)

-- 7: certificate c after the one with id n, here r, is marked valid
unfoldable pub after_marking : ℕ → Certificate → Certificate → Certificate
after_marking n r c = cond (has_id n c) (marked 1 c) (at (λ c. on_a_card r && phone_operator_root c) (marked 0) c)

unfoldable pub mark_valid : Event → Phone → Phone
mark_valid e p =
    with_certificates (map (after_marking e.id (certificate_named p e.id)) p.trust.certificates) p

-- 8
unfoldable pub mark_invalid : Event → Phone → Phone
mark_invalid e p = with_certificates (change (has_id e.id) (marked 0) p.trust.certificates) p

-- 9: "mode 0 disable all, 1 enable all, 2 enable the listed and disable the rest"
unfoldable pub enabled_by : Event → Certificate → ℕ
enabled_by e c = cond (eqb e.third 1 || (eqb e.third 2 && any (eqb c.id) (listed e))) 1 0

-- 9: "Acts on all third party roots, present or not; mode becomes standing."
unfoldable pub message : Event → Phone → Phone
message e p =
    with_mode e.third (with_certificates (change third_party_root (λ c. enabling (enabled_by e c) c) p.trust.certificates) p)

-- 10: "id, key = signing key; domain 0, no permissions"
abbrev pub new_executable : Event → Executable
new_executable e = record { id = e.id; domain = 0; blank = 0; signing = e.key; permissions = 0 }

unfoldable pub install_executable : Event → Phone → Phone
install_executable e p = with_executables (fill free_executable (new_executable e) p.executables) p

-- an executable by its id, changed
abbrev pub change_executable : Event → (Executable → Executable) → Phone → Phone
change_executable e f p = with_executables (change (is_executable e.id) f p.executables) p

-- 11: "id; slot zeroed"
unfoldable pub delete_executable : Event → Phone → Phone
delete_executable e p = change_executable e (λ x. no_executable) p

-- 12: "domain becomes what it chains to, else 0"
unfoldable pub verify : Event → Phone → Phone
verify e p = change_executable e (λ x. in_domain (chain_of p.trust x.signing).domain x) p

-- 13 "give", 14 "withdraw permission": "one bit for each action, action 0 in the lowest bit"
unfoldable pub permit : (ℕ → ℕ → ℕ) → Event → Phone → Phone
permit write e p = change_executable e (λ x. permitted (write x.permissions e.second) x) p

-- 15: "A request changes nothing."
unfoldable pub request : Event → Phone → Phone
request e p = p

-- 16: "The root keeps its id and slot, takes the new key, owner and expiry, and is marked valid."
abbrev pub replaced : Event → Certificate → Certificate
replaced e c =
    record {
      id = c.id;
      place = c.place;
      kind = c.kind;
      domain = c.domain;
      mark = 1;
      enabled = c.enabled;
      key = e.key;
      verifying = c.verifying;
      owner = e.owner;
      expiry = e.expiry;
    }

unfoldable pub replace : Event → Phone → Phone
replace e p = with_certificates (change (has_id e.id) (replaced e) p.trust.certificates) p

-- by kind, from 0 on: there is no kind 0
abbrev pub effects : List (Event → Phone → Phone)
effects =
    request
    ∷ tick
    ∷ card_in
    ∷ card_out
    ∷ power_up
    ∷ install_certificate
    ∷ delete_certificate
    ∷ mark_valid
    ∷ mark_invalid
    ∷ message
    ∷ install_executable
    ∷ delete_executable
    ∷ verify
    ∷ permit set_bit
    ∷ permit clear_bit
    ∷ request
    ∷ replace
    ∷ []

unfoldable pub effect : Event → Phone → Phone
effect e p = get_or effects e.kind request e p

-- ---- settling

-- "each executable with a domain it no longer chains to becomes domain 0"
unfoldable pub settled : Trust → Executable → Executable
settled t x = cond (eqb x.domain 0 || chains_to t x.signing x.domain) x (in_domain 0 x)

-- "After every accepted event"
unfoldable pub settle : Phone → Phone
settle p = with_executables (map (settled p.trust) p.executables) p

-- the phone after an accepted event
unfoldable pub changed : Event → Phone → Phone
changed e p = settle (effect e p)
