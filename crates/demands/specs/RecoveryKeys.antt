-- 02, item 4: what is said of recovery records and of a replace that is done. Definitions only.
use Rattle.std.specs.Prelude.{◌≤◌}
use mathlib.Core.{Logic.◌⊎◌, Path.◌≡◌}
use Rattle.records.specs.{declared.Certificate.Certificate, declared.Event.Event}

-- "phone only, domain 1 or 2, verifying key 0, mark 0, enabled 1"
pub record RecoveryFits (c : Certificate) : Type 0 where
  pub phone_only : c.place ≡ 0
  pub domain : (1 ≤ c.domain) × (c.domain ≤ 2)
  pub verifying : c.verifying ≡ 0
  pub mark : c.mark ≡ 0
  pub enabled : c.enabled ≡ 1

-- what event e, done, says of root r and of the record s with which it replaces it
pub record Replaces (e : Event) (r s : Certificate) : Type 0 where
  -- "allowed to the actor of the domain of id's record, and to nobody where either record is a third party one"
  pub actor : ((r.domain ≡ 1) × (e.actor ≡ 2)) ⊎ ((r.domain ≡ 2) × (e.actor ≡ 3))
  -- "id = root, second = recovery record"
  pub root : r.kind ≡ 0
  pub recovery : s.kind ≡ 2
  -- "either record is not on the phone, domains or owners (the event's included) differ, or the verifying key is not the recovery key": none is so
  pub root_on_phone : r.place ≡ 0
  pub recovery_on_phone : s.place ≡ 0
  pub one_domain : r.domain ≡ s.domain
  pub one_owner : r.owner ≡ s.owner
  pub its_owner : e.owner ≡ r.owner
  pub recovery_key : e.verifying ≡ s.key
