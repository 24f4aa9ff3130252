-- What a code 0 says of the phone and the event. Assumes nothing.
use Prim.Native.Nat.{◌<◌}
use mathlib.Core.{Bool.{not, ◌&&◌}, Logic.◌≢◌, Path.◌≡◌}
use lib.{Dec.{T, eqb, leb, ltb→lt}, ListN.{get_or, length}}
use Rattle.records.specs.{Phone.Phone, declared.Certificate.Certificate, declared.Event.Event}
use Rattle.rules.specs.Forms.{forms, no_form, malformed, owned_form, id_form, action_form, replace_form}
use Rattle.rules.specs.Codes.{refusals, code_of, id_unknown, actor_barred, time_back, card_unknown, card_wrong, card_away, id_taken, key_elsewhere}
use Rattle.rules.specs.Codes.{install_of_other, mark_of_other, no_such_root, another_valid, no_free_slot, never, not_permitted, may_replace, cannot_replace}
use Rattle.rules.specs.Codes.{out_of_date}
use Rattle.laws.proofs.Tests.{tests, and_r, not_elim, first_out}

-- no refusal applied
pub record Unrefused (p : Phone) (e : Event) : Type 0 where
  pub formed : T (get_or forms e.kind no_form p e)
  pub known : T (not (id_unknown p e))
  pub allowed : T (not (actor_barred p e))
  pub forward : T (not (time_back p e))
  pub in_table : T (not (card_unknown p e))
  pub right_card : T (not (card_wrong p e))
  pub here : T (not (card_away p e))
  pub fresh : T (not (id_taken p e))
  pub own_key : T (not (key_elsewhere p e))
  pub install_own : T (not (install_of_other p e))
  pub mark_own : T (not (mark_of_other p e))
  pub such_root : T (not (no_such_root p e))
  pub none_valid : T (not (another_valid p e))
  pub room : T (not (no_free_slot p e))
  pub table_open : T (not (never p e))
  pub permitted : T (not (not_permitted p e))
  pub replaces : T (not (cannot_replace p e))
  pub dated : T (not (out_of_date p e))

well_formed : (p : Phone) (e : Event) → T (not (malformed p e)) → T (get_or forms e.kind no_form p e)
unfolding malformed
well_formed p e h =
    and_r (leb e.actor 4) (get_or forms e.kind no_form p e) (not_elim (leb e.actor 4 && get_or forms e.kind no_form p e) h)

pub unrefused : (p : Phone) (e : Event) → T (eqb (code_of p e) 0) → Unrefused p e
unfolding code_of
unrefused p e h =
    let w = first_out (refusals p e) tt h in
    record {
      formed = well_formed p e w.0;
      known = search w depth 20;
      allowed = search w depth 20;
      forward = search w depth 20;
      in_table = search w depth 20;
      right_card = search w depth 20;
      here = search w depth 20;
      fresh = search w depth 20;
      own_key = search w depth 20;
      install_own = search w depth 20;
      mark_own = search w depth 20;
      such_root = search w depth 20;
      none_valid = search w depth 20;
      room = search w depth 20;
      table_open = search w depth 20;
      permitted = search w depth 20;
      replaces = search w depth 20;
      dated = search w depth 21;
    }

-- "Where a kind names an id, 0 is out of range."
pub owned_formed : (p : Phone) (e : Event) → T (owned_form p e) → e.id ≢ 0
unfolding owned_form
owned_formed p e h = search tests

pub id_formed : (p : Phone) (e : Event) → T (id_form p e) → e.id ≢ 0
unfolding id_form
id_formed p e h = search tests

pub replace_formed : (p : Phone) (e : Event) → T (replace_form p e) → (e.id ≢ 0) × (e.key ≢ 0)
unfolding replace_form
replace_formed p e h = (search tests, search tests)

-- what code 17 leaves of the root r, the recovery record s and the event
pub record Replaceable (e : Event) (r s : Certificate) : Type 0 where
  pub recovery : s.kind ≡ 2
  pub recovery_on_phone : s.place ≡ 0
  pub root_on_phone : r.place ≡ 0
  pub domain : r.domain ≡ s.domain
  pub owner : r.owner ≡ s.owner
  pub event_owner : e.owner ≡ r.owner
  pub recovery_key : e.verifying ≡ s.key

pub replaceable : (e : Event) (r s : Certificate) → T (may_replace e r s) → Replaceable e r s
unfolding may_replace
replaceable e r s h =
    record {
      recovery = search tests depth 9;
      recovery_on_phone = search tests depth 9;
      root_on_phone = search tests depth 9;
      domain = search tests depth 9;
      owner = search tests depth 9;
      event_owner = search tests depth 9;
      recovery_key = search tests depth 9;
    }

pub action_formed : (p : Phone) (e : Event) → T (action_form p e) → (e.id ≢ 0) × (e.second < length p.table)
unfolding action_form
action_formed p e h = (search tests, ltb→lt e.second (length p.table) (search tests))
