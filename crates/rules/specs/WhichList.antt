-- 01's two lists of events, computed: for each of the sixteen kinds whether it withdraws and whether it gives. Assumes nothing.
use Rattle.std.specs.Prelude.{ℕ}
use mathlib.Core.{Bool.{Bool, true, false}, List.{List, [], ◌∷◌, map}, Path.{◌≡◌, refl}}
use Rattle.records.specs.{Phone.Phone, declared.Certificate.Certificate, declared.Event.Event}
use Rattle.rules.specs.{Demands.{withdrawing, giving}, Computing.computing}

-- an event with a kind, an id and a mode, which is all that the lists look at
abbrev event : ℕ → ℕ → ℕ → Event
event kind id mode =
    record { kind = kind; actor = 0; id = id; second = 0; third = mode; fourth = 0; key = 0; verifying = 0; owner = 0; expiry = 0 }

abbrev of_kind : ℕ → Event
of_kind kind = event kind 0 0

abbrev message : ℕ → Event
message mode = event 9 0 mode

abbrev mark_valid : ℕ → Event
mark_valid id = event 7 id 0

-- roots 10, the operator's on the phone, and 20, the operator's, and 30, a third party's, both on card 2
abbrev root : ℕ → ℕ → ℕ → Certificate
root id place domain =
    record { id = id; place = place; kind = 0; domain = domain; mark = 0; enabled = 1; key = id; verifying = 0; owner = 0; expiry = 0 }

abbrev phone : Phone
phone =
    record {
      trust = record { seen = record { clock = 0; card = 2 }; certificates = root 10 0 1 ∷ root 20 2 1 ∷ root 30 2 3 ∷ [] };
      mode = 0;
      cards = [];
      executables = [];
      table = [];
    }

-- an event, and whether it is in the one list and in the other
pub record Entry : Type 0 where
  pub event : Event
  pub withdraws : Bool
  pub gives : Bool

abbrev withdraws : Event → Entry
withdraws e = record { event = e; withdraws = true; gives = false }

abbrev gives : Event → Entry
gives e = record { event = e; withdraws = false; gives = true }

abbrev neither : Event → Entry
neither e = record { event = e; withdraws = false; gives = false }

-- "Withdrawing: 1, 3, 6, 8, 11, 14 and 9 with mode 0. Giving: 5, 10, 12, 13, 9 with mode 1, and 7 except on an operator root on a card. In neither:
-- 2, 4, 9 with mode 2, 7 on a card's operator root."
abbrev pub entries : List Entry
entries =
    withdraws (of_kind 1)
    ∷ neither (of_kind 2)
    ∷ withdraws (of_kind 3)
    ∷ neither (of_kind 4)
    ∷ gives (of_kind 5)
    ∷ withdraws (of_kind 6)
    ∷ gives (mark_valid 10)
    ∷ neither (mark_valid 20)
    ∷ gives (mark_valid 30)
    ∷ withdraws (of_kind 8)
    ∷ withdraws (message 0)
    ∷ gives (message 1)
    ∷ neither (message 2)
    ∷ gives (of_kind 10)
    ∷ withdraws (of_kind 11)
    ∷ gives (of_kind 12)
    ∷ gives (of_kind 13)
    ∷ withdraws (of_kind 14)
    -- "A request changes nothing."
    ∷ neither (of_kind 15)
    -- 02, item 4: "It belongs to neither list of demand 3."
    ∷ neither (event 16 10 0)
    ∷ []

-- every kind is there: 7 for three roots, 9 with its three modes
pub every_kind : map (λ x. x.event.kind) entries ≡ (1 ∷ 2 ∷ 3 ∷ 4 ∷ 5 ∷ 6 ∷ 7 ∷ 7 ∷ 7 ∷ 8 ∷ 9 ∷ 9 ∷ 9 ∷ 10 ∷ 11 ∷ 12 ∷ 13 ∷ 14 ∷ 15 ∷ 16 ∷ [])
every_kind = refl

-- what the definitions say of an event
abbrev entry : Event → Entry
entry e = record { event = e; withdraws = withdrawing phone e; gives = giving phone e }

pub lists_as_written : map (λ x. entry x.event) entries ≡ entries
unfolding computing
lists_as_written = refl
