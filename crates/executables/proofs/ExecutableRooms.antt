-- What the room for one more executable tells of an install: its code, and the slot that is filled. Assumes nothing.
use Prim.Native.Nat.{ℕ}
use mathlib.Core.{Bool.{Bool, true, false, cond, not}, List.{List, [], ◌∷◌}, Path.{◌≡◌, refl, sym, ap, ◌∙◌}}
use native.Mathlib.Omega.{arith}
use Rattle.std.specs.Prelude.{Result, Ok, Err}
use Rattle.records.specs.declared.Executable.{Executable}
use Rattle.rules.specs.{Words.{any, ◌⇒◌, first, first_place}, Codes.is_executable}
use Rattle.lookup.specs.{declared.NoRoom.NoRoom, RoomForOne.{free_slot, executable_room}}
use Rattle.handling.specs.RefusalCodes.{refusal_code, of_room}

-- the code of an install that finds this room
abbrev pub room_code : Result ℕ NoRoom → ℕ
room_code (Ok i) = 0
room_code (Err why) = refusal_code (of_room why)

module _ (id : ℕ) (l : List Executable) where
  pub executable_told : {r : Result ℕ NoRoom} → r ≡ executable_room id l
      → room_code r ≡ first ((any (is_executable id) l ⇒ 9) ∷ (not (any (is_executable 0) l) ⇒ 14) ∷ [])
  unfolding executable_room free_slot first
  executable_told q = ap room_code q ∙ each (any (is_executable id) l) (any (is_executable 0) l)
    where
      each : (a b : Bool) → room_code (cond a (Err NoRoom.Taken) (cond b (Ok (first_place (is_executable 0) l)) (Err NoRoom.Full)))
          ≡ cond a 9 (cond (not b) 14 0)
      each true b = refl
      each false true = refl
      each false false = refl

  pub executable_filled : {r : Result ℕ NoRoom} {i : ℕ} → r ≡ executable_room id l → r ≡ Ok i → i ≡ first_place (is_executable 0) l
  unfolding executable_room free_slot
  executable_filled {r} {i} q h = each (any (is_executable id) l) (any (is_executable 0) l) (sym h ∙ q)
    where
      slot : Result ℕ NoRoom → ℕ
      slot (Ok j) = j
      slot (Err why) = 0

      each : {n : ℕ} (a b : Bool) → Ok i ≡ cond a (Err NoRoom.Taken) (cond b (Ok n) (Err NoRoom.Full)) → i ≡ n
      each true b h = absurd (omega (arith, ap room_code h))
      each false true h = ap slot h
      each false false h = absurd (omega (arith, ap room_code h))
