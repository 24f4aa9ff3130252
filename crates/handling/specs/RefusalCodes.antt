-- Why an event is refused: the code of each reason, as 01 and 02 number them. Definitions only.
use Rattle.std.specs.Prelude.{ℕ, Result, Ok, Err}
use Rattle.lookup.specs.declared.NoRoom.{NoRoom}
use Rattle.handling.specs.declared.Refusal.{Refusal}

abbrev pub refusal_code : Refusal → ℕ
refusal_code Refusal.Malformed = 2
refusal_code Refusal.UnknownId = 3
refusal_code Refusal.ActorNotAllowed = 4
refusal_code Refusal.ClockBackwards = 5
refusal_code Refusal.UnknownCard = 6
refusal_code Refusal.CardState = 7
refusal_code Refusal.CardAbsent = 8
refusal_code Refusal.IdTaken = 9
refusal_code Refusal.KeyElsewhere = 10
refusal_code Refusal.OtherOperator = 11
refusal_code Refusal.WrongKind = 12
refusal_code Refusal.AnotherValid = 13
refusal_code Refusal.NoFreeSlot = 14
refusal_code Refusal.NeverAllowed = 15
refusal_code Refusal.NoPermission = 16
refusal_code Refusal.NoRecovery = 17
refusal_code Refusal.PastItsDate = 18

-- the same, where a refusal is told by its code
abbrev pub by_code : {A : Type 0} → Result A Refusal → Result A ℕ
by_code (Ok x) = Ok x
by_code (Err why) = Err (refusal_code why)

-- of an install that finds no room
abbrev pub of_room : NoRoom → Refusal
of_room NoRoom.Taken = Refusal.IdTaken
of_room NoRoom.Elsewhere = Refusal.KeyElsewhere
of_room NoRoom.Full = Refusal.NoFreeSlot
