-- What the room for one more certificate tells of an install: its code, where 11 comes before the last, and the slot that is filled. Assumes nothing.
use Prim.Native.Nat.{ℕ, ◌<◌}
use mathlib.Core.{Bool.{Bool, true, false, cond, not}, List.{List, [], ◌∷◌}, Path.{◌≡◌, refl, sym, ap, subst, ◌∙◌}}
use native.Mathlib.Omega.{arith}
use lib.ListN.{length}
use Rattle.records.specs.{Phone.Phone, declared.Certificate.Certificate, declared.Event.Event}
use Rattle.rules.specs.{Words.{any, ◌⇒◌, first, first_place}, Forms.with_kind, Codes.{has_id, in_another, code_of}}
use Rattle.lookup.specs.{declared.NoRoom.NoRoom, RoomForOne.{free_slot, certificate_room}}
use Rattle.std.specs.Prelude.{Result, Ok, Err}
use Rattle.handling.specs.{declared.Refusal.Refusal, RefusalCodes.by_code, Plans.for_certificate}
use Rattle.handling.proofs.PlanLaws.{on_code, on_slot, free_certificate_within}

abbrev pub certificate_code : Bool → Result ℕ NoRoom → ℕ
certificate_code other (Err NoRoom.Taken) = 9
certificate_code other (Err NoRoom.Elsewhere) = 10
certificate_code other (Err NoRoom.Full) = cond other 11 14
certificate_code other (Ok i) = cond other 11 0

-- whether the id is taken, the key is in another domain, and slot n is free
abbrev room : Bool → Bool → Bool → ℕ → Result ℕ NoRoom
room a b f n = cond a (Err NoRoom.Taken) (cond b (Err NoRoom.Elsewhere) (cond f (Ok n) (Err NoRoom.Full)))

module _ (id key domain : ℕ) (l : List Certificate) where
  pub certificate_told : {r : Result ℕ NoRoom} (other : Bool) → r ≡ certificate_room id key domain l
      → certificate_code other r ≡ first ((any (has_id id) l ⇒ 9) ∷ (any (in_another key domain) l ⇒ 10) ∷ (other ⇒ 11) ∷ (not (any (has_id 0) l) ⇒ 14) ∷ [])
  unfolding certificate_room free_slot first
  certificate_told other q = ap (certificate_code other) q ∙ each (any (has_id id) l) (any (in_another key domain) l) other (any (has_id 0) l)
    where
      each : (a b o f : Bool) → certificate_code o (room a b f (first_place (has_id 0) l)) ≡ cond a 9 (cond b 10 (cond o 11 (cond (not f) 14 0)))
      each true b o f = refl
      each false true o f = refl
      each false false true true = refl
      each false false true false = refl
      each false false false true = refl
      each false false false false = refl

  pub certificate_filled : {r : Result ℕ NoRoom} {i : ℕ} → r ≡ certificate_room id key domain l → r ≡ Ok i → i ≡ first_place (has_id 0) l
  unfolding certificate_room free_slot
  certificate_filled {r} {i} q h = each (any (has_id id) l) (any (in_another key domain) l) (any (has_id 0) l) (first_place (has_id 0) l) (sym h ∙ q)
    where
      slot : Result ℕ NoRoom → ℕ
      slot (Ok j) = j
      slot (Err why) = 0

      told : {r : Result ℕ NoRoom} → Ok i ≡ r → 0 ≡ certificate_code false r
      told h = ap (certificate_code false) h

      each : (a b f : Bool) (n : ℕ) → Ok i ≡ room a b f n → i ≡ n
      each true b f n h = absurd (omega (arith, told h))
      each false true f n h = absurd (omega (arith, told h))
      each false false true n h = ap slot h
      each false false false n h = absurd (omega (arith, told h))

-- an install that is done fills a free slot
module _ (p : Phone) (e : Event) {r : Result ℕ Refusal} (q : by_code r ≡ for_certificate 5 p e) {i : ℕ} (on : r ≡ Ok i) where
  abbrev free : ℕ
  free = first_place (has_id 0) p.trust.certificates

  pub is_installed : code_of p (with_kind 5 e) ≡ 0
  is_installed = on_code (code_of p (with_kind 5 e)) free q on

  pub is_free : (i ≡ free) × (i < length p.trust.certificates)
  is_free =
      let at = on_slot (code_of p (with_kind 5 e)) free q on in
      (at, subst (λ n. n < length p.trust.certificates) (sym at) (free_certificate_within p e 5 is_installed tt))
