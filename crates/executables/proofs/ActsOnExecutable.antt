-- From the rows of an event on the executable that it names to its plan, and from the plan to what is done. Assumes nothing.
use Prim.Native.Nat.{ℕ, ◌<◌}
use mathlib.Core.{Bool.{Bool, true, false, not}, List.{List, [], ◌∷◌}, Path.{◌≡◌, refl, sym, subst}}
use native.Mathlib.Omega.{arith}
use lib.{Dec.{T, eqb}, ListN.length}
use Rattle.records.specs.{Phone.{Phone, decode}, declared.Event.Event}
use Rattle.rules.specs.{Words.{between, ◌⇒◌, first, first_place}, Actors.may_act, AcceptedImage.AcceptedImage, Forms.with_kind}
use Rattle.rules.specs.Codes.{is_executable, executable_known, code_of}
use Rattle.std.specs.Prelude.{Ok}
use Rattle.handling.specs.Plans.{plan, on_executable, for_executable, executable_rows}
use Rattle.executables.specs.Acting.{acting, permission_kind}
use Rattle.lookup.proofs.FirstWithin.{first_within}
use Rattle.handling.proofs.PlanLaws.{on_code, on_slot, executable_within, free_executable_within}

-- where the rows of an executable say nothing it is known, and its slot is a slot
pub known_within : (k : ℕ) (p : Phone) (e : Event) {i : ℕ} → Ok i ≡ acting k p e → i < length p.executables
unfolding executable_known first
known_within k p e {i} q =
    let slot = first_place (is_executable e.id) p.executables in
    let code = first (executable_rows k p e) in
    first_within (is_executable e.id) p.executables (on_slot code slot {r = Ok i} q refl)
    (go (executable_known p e.id) (not (may_act k 0 e.actor)) (on_code code slot {r = Ok i} q refl))
  where
    go : (b c : Bool) → first ((not b ⇒ 3) ∷ (c ⇒ 4) ∷ []) ≡ 0 → b ≡ true
    go true c h = refl
    go false c h = absurd (omega (arith, h))

-- an event of kind k on an accepted image is done, on slot i: that of the executable id
pub record Acts (k id : ℕ) (l : List ℕ) (e : Event) (i : ℕ) : Type 0 where
  pub accepted : AcceptedImage l
  pub code : code_of (decode l) (with_kind k e) ≡ 0
  pub place : i ≡ first_place (is_executable id) (decode l).executables
  pub within : i < length (decode l).executables

module _ (k id : ℕ) (l : List ℕ) (e : Event) (a : AcceptedImage l) where
  abbrev at : ℕ
  at = first_place (is_executable id) (decode l).executables

  acts_on : (code_of (decode l) (with_kind k e) ≡ 0 → at < length (decode l).executables) → {i : ℕ} → Ok i ≡ plan (code_of (decode l) (with_kind k e)) at
      → Acts k id l e i
  acts_on w {i} q =
      let code = on_code (code_of (decode l) (with_kind k e)) at {r = Ok i} q refl in
      let place = on_slot (code_of (decode l) (with_kind k e)) at {r = Ok i} q refl in
      record { accepted = a; code = code; place = place; within = subst (λ n. n < length (decode l).executables) (sym place) (w code) }

module _ (k : ℕ) (l : List ℕ) (e : Event) (a : AcceptedImage l) {i : ℕ} where
  -- on the executable that it names, and on the lowest free slot
  pub acts_named : T (between 11 15 k) → Ok i ≡ on_executable k (decode l) e → Acts k e.id l e i
  acts_named h q = acts_on k e.id l e a (λ z. executable_within (decode l) e k z h) q

  pub acts_free : T (eqb k 10) → Ok i ≡ for_executable k (decode l) e → Acts k 0 l e i
  acts_free h q = acts_on k 0 l e a (λ z. free_executable_within (decode l) e k z h) q

module _ (l : List ℕ) (e : Event) (a : AcceptedImage l) {i : ℕ} where
  pub acts_permit : (given : Bool) → let k = permission_kind given in Ok i ≡ on_executable k (decode l) e → Acts k e.id l e i
  acts_permit true = acts_named 13 l e a tt
  acts_permit false = acts_named 14 l e a tt
