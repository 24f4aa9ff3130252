-- 01, "Who may act is one fixed table over event kind and domain". Definitions only.
use Rattle.std.specs.Prelude.{ℕ, Bool, false, not, ◌&&◌, ◌||◌, eqb}
use Rattle.records.specs.{declared.Certificate.Certificate, declared.Event.Event}
use Rattle.rules.specs.Words.{between}

-- "Kinds 5–8 go by the certificate's domain: operator 2, manufacturer 3"; third party as the kind says
abbrev pub by_domain : ℕ → ℕ → Bool → Bool
by_domain d a third = (eqb d 1 && eqb a 2) || (eqb d 2 && eqb a 3) || (eqb d 3 && third)

-- "kinds 1–4, 12, 15 actor 0; 13, 14 actor 1; 9 actor 4; 10, 11 actors 1–4"; "third party: install 1–4, delete 1 and 4, mark 4": kind k, domain d, actor a
unfoldable pub may_act : ℕ → ℕ → ℕ → Bool
may_act k d a =
    ((between 1 4 k || eqb k 12 || eqb k 15) && eqb a 0)
    || (between 13 14 k && eqb a 1)
    || (eqb k 9 && eqb a 4)
    || (between 10 11 k && between 1 4 a)
    || (eqb k 5 && by_domain d a (between 1 4 a))
    || (eqb k 6 && by_domain d a (eqb a 1 || eqb a 4))
    || (between 7 8 k && by_domain d a (eqb a 4))
    || (eqb k 16 && by_domain d a false)

-- 02, item 7: "For events 6 to 8 by an operator or a manufacturer, the owner field .. names who acts"
abbrev pub somebody : Event → Bool
somebody e = between 6 8 e.kind && between 2 3 e.actor

-- "and it must equal the certificate's owner"
unfoldable pub acts_for : Event → Certificate → Bool
acts_for e c = not (somebody e) || eqb e.owner c.owner
