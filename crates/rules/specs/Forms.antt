-- 01, "Events": the fields of each kind. Definitions only.
use Rattle.std.specs.Prelude.{ℕ, ◌/◌, ◌%◌}
use mathlib.Core.{Bool.{Bool, false, cond, not, ◌&&◌, ◌||◌}, List.{List, [], ◌∷◌}}
use lib.{Dec.{eqb, leb, ltb}, ListN.{length, get_or, take, drop}}
use Rattle.records.specs.{Phone.Phone, declared.Certificate.Certificate, declared.Event.Event}
use Rattle.rules.specs.{Words.{between, all, all_zero}, ImageRules.certificate_fits}

-- kind 5: "id, second = place, third = kind, fourth = domain, all four u32"; "A third party root gets mark 1, enabled 1 exactly if the standing mode
-- is 1; other roots get mark 0"; an issued record gets 1 and 1, a recovery record 0 and 1 (I2)
unfoldable pub new_certificate : ℕ → Event → Certificate
new_certificate mode e =
    record {
      id = e.id;
      place = e.second;
      kind = e.third;
      domain = e.fourth;
      mark = cond (eqb e.third 1 || (eqb e.third 0 && eqb e.fourth 3)) 1 0;
      enabled = cond (eqb e.third 0 && eqb e.fourth 3 && not (eqb mode 1)) 0 1;
      key = e.key;
      verifying = e.verifying;
      owner = e.owner;
      expiry = e.expiry;
    }

-- kind 9: "listed ids are u16 from byte 8": the last sixteen bytes as eight numbers
abbrev pub eight : Event → List ℕ
eight e =
    e.key / 65536 ∷ e.key % 65536 ∷ e.verifying / 65536 ∷ e.verifying % 65536
    ∷ e.owner / 65536 ∷ e.owner % 65536 ∷ e.expiry / 65536 ∷ e.expiry % 65536 ∷ []

-- "fourth = number listed"
abbrev pub listed : Event → List ℕ
listed e = take e.fourth (eight e)

abbrev pub unlisted : Event → List ℕ
unlisted e = drop e.fourth (eight e)

-- the event taken as one of kind k: at its own kind it is the event itself
abbrev pub with_kind : ℕ → Event → Event
with_kind k e =
    record {
      kind = k;
      actor = e.actor;
      id = e.id;
      second = e.second;
      third = e.third;
      fourth = e.fourth;
      key = e.key;
      verifying = e.verifying;
      owner = e.owner;
      expiry = e.expiry;
    }

-- ---- the form of each kind: "Fields not named below are 0"; "Where a kind names an id, 0 is out of range."

-- 1 clock: "key = new time"
unfoldable pub clock_form : Phone → Event → Bool
clock_form p e = all_zero (e.id ∷ e.second ∷ e.third ∷ e.fourth ∷ e.verifying ∷ e.owner ∷ e.expiry ∷ [])

-- 4 power up: "second = card or 0"
unfoldable pub card_form : Phone → Event → Bool
card_form p e = all_zero (e.id ∷ e.third ∷ e.fourth ∷ e.key ∷ e.verifying ∷ e.owner ∷ e.expiry ∷ [])

-- 2 card in: "second = card, not 0"
unfoldable pub card_in_form : Phone → Event → Bool
card_in_form p e = not (eqb e.second 0) && card_form p e

-- 3 card out
unfoldable pub card_out_form : Phone → Event → Bool
card_out_form p e = eqb e.second 0 && card_form p e

-- 5 install certificate: "ranges as I2"
unfoldable pub install_form : Phone → Event → Bool
install_form p e = certificate_fits (new_certificate p.mode e)

-- 6, 7, 8: "id"; of an operator or a manufacturer "the owner field .. names who acts"; "Every other actor leaves the field 0"
unfoldable pub owned_form : Phone → Event → Bool
owned_form p e =
    not (eqb e.id 0)
    && all_zero (e.second ∷ e.third ∷ e.fourth ∷ e.key ∷ e.verifying ∷ e.expiry ∷ [])
    && (between 2 3 e.actor || eqb e.owner 0)

-- 11, 12: "id"
unfoldable pub id_form : Phone → Event → Bool
id_form p e =
    not (eqb e.id 0) && all_zero (e.second ∷ e.third ∷ e.fourth ∷ e.key ∷ e.verifying ∷ e.owner ∷ e.expiry ∷ [])

-- 9 configuration message: "third = mode 0 .. 2; fourth = number listed, 0..8, and 0 unless mode 2; listed ids (not 0), unused ones 0"
unfoldable pub message_form : Phone → Event → Bool
message_form p e =
    leb e.third 2
    && leb e.fourth 8
    && (eqb e.fourth 0 || eqb e.third 2)
    && all_zero (e.id ∷ e.second ∷ [])
    && all (λ n. not (eqb n 0)) (listed e)
    && all_zero (unlisted e)

-- 10 install executable: "id, key = signing key"
unfoldable pub executable_form : Phone → Event → Bool
executable_form p e =
    not (eqb e.id 0) && all_zero (e.second ∷ e.third ∷ e.fourth ∷ e.verifying ∷ e.owner ∷ e.expiry ∷ [])

-- 13, 14, 15: "id, second = action"; "action not below the action count"
unfoldable pub action_form : Phone → Event → Bool
action_form p e =
    not (eqb e.id 0)
    && ltb e.second (length p.table)
    && all_zero (e.third ∷ e.fourth ∷ e.key ∷ e.verifying ∷ e.owner ∷ e.expiry ∷ [])

-- 16 replace: "id = root, second = recovery record, key, verifying key, owner, expiry"; "key 0 in event 16"
unfoldable pub replace_form : Phone → Event → Bool
replace_form p e =
    not (eqb e.id 0) && not (eqb e.second 0) && not (eqb e.key 0) && all_zero (e.third ∷ e.fourth ∷ [])

-- no form: "kind not 1..16"
unfoldable pub no_form : Phone → Event → Bool
no_form p e = false

-- by kind, from 0 on
abbrev pub forms : List (Phone → Event → Bool)
forms =
    no_form
    ∷ clock_form
    ∷ card_in_form
    ∷ card_out_form
    ∷ card_form
    ∷ install_form
    ∷ owned_form
    ∷ owned_form
    ∷ owned_form
    ∷ message_form
    ∷ executable_form
    ∷ id_form
    ∷ id_form
    ∷ action_form
    ∷ action_form
    ∷ action_form
    ∷ replace_form
    ∷ []

-- "kind not 1..16, actor above 4, a field out of range, unused field not 0, action not below the action count"
unfoldable pub malformed : Phone → Event → Bool
malformed p e = not (leb e.actor 4 && get_or forms e.kind no_form p e)
