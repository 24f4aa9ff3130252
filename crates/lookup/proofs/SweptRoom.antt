-- The room for one more record, from what a sweep through the slots, from the last down, found. Assumes nothing.
use Prim.Native.Nat.{ℕ, ◌+◌, ◌≤◌, ◌<◌}
use mathlib.Core.{Bool.{Bool, true, false, cond}, List.List, Path.{◌≡◌, refl, sym, ap, ◌∙◌}}
use native.{Mathlib.Nat.zero-add, Mathlib.Omega.arith}
use lib.ListN.{length, get_or, drop}
use Rattle.std.specs.Prelude.{Result, Ok, Err}
use Rattle.records.specs.{declared.Certificate.Certificate, declared.Executable.Executable}
use Rattle.rules.specs.{Words.{any, first_place}, Codes.{has_id, in_another, is_executable}}
use Rattle.lookup.specs.{declared.NoRoom.NoRoom, RoomForOne.{free_slot, executable_room, certificate_room}}
use Rattle.laws.proofs.{Loops.{any_here, any_next, any_end}, Places.{place_back_here, place_back}}

module _ {A : Type 0} (t : A → Bool) (l : List A) where
  -- the lowest free slot from slot i on, or none
  unfoldable pub free_from : ℕ → Result ℕ NoRoom
  free_from i = cond (any t (drop i l)) (Ok (i + first_place t (drop i l))) (Err NoRoom.Full)

  pub free_end : (d : A) (i : ℕ) → length l ≤ i → Err NoRoom.Full ≡ free_from i
  unfolding free_from
  free_end d i h = rw (any_end d l i t h)

  module _ (d : A) (i : ℕ) (h : i < length l) where
    pub free_here : t (get_or l i d) ≡ true → Ok i ≡ free_from i
    unfolding free_from
    free_here e = ap Ok (place_back_here t d l i h e) ∙ ap (λ b. cond b (Ok (i + first_place t (drop i l))) (Err NoRoom.Full)) (sym (any_here d l i t h e))

    next : t (get_or l i d) ≡ false → free_from (i + 1) ≡ free_from i
    unfolding free_from
    next e =
        ap (λ b. cond b (Ok (i + 1 + first_place t (drop (i + 1) l))) (Err NoRoom.Full)) (sym (any_next d l i t h e))
        ∙ ap (λ k. cond (any t (drop i l)) (Ok k) (Err NoRoom.Full)) (place_back t d l i refl refl h e)

    pub free_next : {j : ℕ} → i + 1 ≡ j → {r : Result ℕ NoRoom} → r ≡ free_from j → t (get_or l i d) ≡ false → r ≡ free_from i
    free_next q inv e = inv ∙ ap free_from (sym q) ∙ next e

  pub free_done : {i : ℕ} {r : Result ℕ NoRoom} → r ≡ free_from i → i ≤ 0 → r ≡ free_slot t l
  unfolding free_from free_slot
  free_done {i} inv h =
      let z : i ≡ 0 = omega arith in
      inv ∙ ap free_from z ∙ ap (λ k. cond (any t l) (Ok k) (Err NoRoom.Full)) (zero-add _)

module _ (id : ℕ) (l : List Executable) where
  pub executable_taken : any (is_executable id) l ≡ true → Err NoRoom.Taken ≡ executable_room id l
  unfolding executable_room
  executable_taken h = rw h

  pub executable_new : any (is_executable id) l ≡ false → {r : Result ℕ NoRoom} → r ≡ free_slot (is_executable 0) l → r ≡ executable_room id l
  unfolding executable_room
  executable_new h q = q ∙ ap (λ b. cond b (Err NoRoom.Taken) (free_slot (is_executable 0) l)) (sym h)

module _ (id key domain : ℕ) (l : List Certificate) where
  pub certificate_taken : any (has_id id) l ≡ true → Err NoRoom.Taken ≡ certificate_room id key domain l
  unfolding certificate_room
  certificate_taken h = rw h

  module _ (new : any (has_id id) l ≡ false) where
    pub certificate_elsewhere : any (in_another key domain) l ≡ true → Err NoRoom.Elsewhere ≡ certificate_room id key domain l
    unfolding certificate_room
    certificate_elsewhere h = rw (new, h)

    pub certificate_new : any (in_another key domain) l ≡ false → {r : Result ℕ NoRoom} → r ≡ free_slot (has_id 0) l → r ≡ certificate_room id key domain l
    unfolding certificate_room
    certificate_new h q = rw (new, h, q)
