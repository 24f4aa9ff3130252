-- The premises of demand 3 can be met, its two lists can take no kind more, and the exception in 02's item 7 is met: each computed. Assumes nothing.
use Prim.Native.Nat.{ℕ}
use mathlib.Core.{Bool.{Bool, true, false, not, ◌&&◌, ◌||◌}, List.{List, [], ◌∷◌, ◌++◌}, Path.{◌≡◌, refl}}
use lib.Dec.{eqb}
use Rattle.octets.specs.Octets.{bytes}
use Rattle.records.specs.Phone.{decode, certificate_at}
use Rattle.rules.specs.{Words.all, ImageRules.accepted, Codes.code, Step.{step, run}, Demands.{grants, withdrawing, giving}, Computing.computing}
use Rattle.rules.specs.WorkedRun.{image}
use Rattle.demands.specs.Runs.{WithdrawingRun, GivingRun, verified}
use Rattle.keeping.specs.OneEvent.{event_of, phone_after}

-- ---- runs of 01's image that change a grant; that it is accepted is `image_accepted` of crates/rules/specs/WorkedRun.antt

-- the clock a second past the expiry of the certificate that signed executable 1
abbrev clock_201 : List ℕ
clock_201 = bytes 24 0x01_00_0000_0000_00_00_000000c9_00000000_00000000_00000000

abbrev give_1_0 : List ℕ
give_1_0 = bytes 24 0x0d_01_0001_0000_00_00_00000000_00000000_00000000_00000000

-- refused where they stand: a card put in by the user, and a record of one byte
abbrev user_puts_card_2_in : List ℕ
user_puts_card_2_in = bytes 24 0x02_01_0000_0002_00_00_00000000_00000000_00000000_00000000

abbrev one_byte : List ℕ
one_byte = bytes 1 0x0c

pub is_withdrawing : WithdrawingRun image (clock_201 ∷ [])
unfolding computing
is_withdrawing = (tt, tt)

-- what is refused spoils no run
pub refused_spoil_nothing : WithdrawingRun image (clock_201 ∷ user_puts_card_2_in ∷ one_byte ∷ clock_201 ∷ [])
unfolding computing
refused_spoil_nothing = (tt, (tt, (tt, (tt, tt))))

pub withdrawing_refuses : (grants image 1 1 ≡ true) × (grants (run image (clock_201 ∷ [])) 1 1 ≡ false)
unfolding computing
withdrawing_refuses = (refl, refl)

pub is_giving : GivingRun (run image (clock_201 ∷ [])) (give_1_0 ∷ [])
unfolding computing
is_giving = (tt, tt)

pub giving_grants : (grants (run image (clock_201 ∷ [])) 1 0 ≡ false) × (grants (run (run image (clock_201 ∷ [])) (give_1_0 ∷ [])) 1 0 ≡ true)
unfolding computing
giving_grants = (refl, refl)

-- ---- the kinds that stand in neither list

-- operator roots 10 and 20, as given; third party roots 30, enabled, and 40, not; recovery record 50 beside root 10;
-- cards 1 and 2 of operators 500 and 600; executables 1 to 4, signed by the keys of 10, 20, 30 and 40, of which 1 and 3 have their domains, and 5,
-- signed by a key that nobody has; one action, for all domains but 0
abbrev phone : ℕ → ℕ → ℕ → List ℕ
phone card root-10 root-20 =
    bytes 12 0x0001_0005_0002_0005_0001_0002
    ++ bytes 2 card
    ++ bytes 26 0x0000_00000064_00000028_000000a0_000000b0_000000ec_000000f0
    ++ bytes 24 root-10
    ++ bytes 24 root-20
    ++ bytes 24 0x001e_0000_00_03_01_01_00000bb8_00000000_00000000_000003e8
    ++ bytes 24 0x0028_0000_00_03_01_00_00000fa0_00000000_00000000_000003e8
    ++ bytes 24 0x0032_0000_02_01_00_01_00001388_00000000_000001f4_00000000
    ++ bytes 8 0x0001_0000_000001f4
    ++ bytes 8 0x0002_0000_00000258
    ++ bytes 12 0x0001_01_00_000003e8_00000000
    ++ bytes 12 0x0002_00_00_000007d0_00000000
    ++ bytes 12 0x0003_03_00_00000bb8_00000000
    ++ bytes 12 0x0004_00_00_00000fa0_00000000
    ++ bytes 12 0x0005_00_00_000003ea_00000000
    ++ bytes 4 0x00_02_02_02

-- root 10 of operator 500, valid on the phone
abbrev phone_root_10 : ℕ
phone_root_10 = 0x000a_0000_00_01_01_01_000003e8_00000000_000001f4_000003e8

-- no card is present, and root 20 is valid on card 2
abbrev card_away : List ℕ
card_away = phone 0 phone_root_10 0x0014_0002_00_01_01_01_000007d0_00000000_00000258_000003e8

-- card 1 is present, and root 20 is on it, not valid
abbrev card_here : List ℕ
card_here = phone 1 phone_root_10 0x0014_0001_00_01_00_01_000007d0_00000000_000001f4_000003e8

-- card 2 in; power up with card 2; a message that enables root 40 and no other; root 20 marked valid; root 10 replaced, with the key that signed
-- executable 5
abbrev card_2_in : List ℕ
card_2_in = bytes 24 0x02_00_0000_0002_00_00_00000000_00000000_00000000_00000000

abbrev up_with_card_2 : List ℕ
up_with_card_2 = bytes 24 0x04_00_0000_0002_00_00_00000000_00000000_00000000_00000000

abbrev enable_40 : List ℕ
enable_40 = bytes 24 0x09_04_0000_0000_02_01_0028_0000_00000000_00000000_00000000

abbrev mark_20 : List ℕ
mark_20 = bytes 24 0x07_02_0014_0000_00_00_00000000_00000000_000001f4_00000000

abbrev replace_10 : List ℕ
replace_10 = bytes 24 0x10_02_000a_0032_00_00_000003ea_00001388_000001f4_000003e8

-- an event on an image, and a request
pub record Example : Type 0 where
  pub image : List ℕ
  pub event : List ℕ
  pub executable : ℕ
  pub action : ℕ

abbrev example : List ℕ → List ℕ → ℕ → Example
example l v n = record { image = l; event = v; executable = n; action = 0 }

-- the image is accepted, the event is done, and no list has it
abbrev fair : Example → Bool
fair x =
    accepted x.image
    && eqb (code x.image x.event) 0
    && not (withdrawing (decode x.image) (event_of x.event) || giving (decode x.image) (event_of x.event))

-- the request is granted by the image, with every application verified
abbrev granted_verified : List ℕ → Example → Bool
granted_verified l x = grants (verified l) x.executable x.action

-- refused before the event and granted after it: were the event withdrawing, demand 3 would fail
abbrev gains : Example → Bool
gains x = fair x && not (granted_verified x.image x) && granted_verified (step x.image x.event).image x

-- granted before and refused after: were it giving, demand 3 would fail
abbrev loses : Example → Bool
loses x =
    fair x && grants x.image x.executable x.action && not (grants (step x.image x.event).image x.executable x.action)

abbrev pub gaining : List Example
gaining =
    example card_away card_2_in 2
    ∷ example card_away up_with_card_2 2
    ∷ example card_away enable_40 4
    ∷ example card_here mark_20 2
    ∷ example card_away replace_10 5
    ∷ []

abbrev pub losing : List Example
losing =
    example card_away card_2_in 1
    ∷ example card_away up_with_card_2 1
    ∷ example card_away enable_40 3
    ∷ example card_here mark_20 1
    ∷ example card_away replace_10 1
    ∷ []

pub none_withdraws : all gains gaining ≡ true
unfolding computing verified
none_withdraws = refl

pub none_gives : all loses losing ≡ true
unfolding computing verified
none_gives = refl

-- ---- what 02's item 7 leaves to the card rule

-- card 1 of operator 500 is present with root 10 on it, and root 20 of operator 600 is on the phone; both are marked valid, and root 20 is past its date
abbrev of_two : List ℕ
of_two =
    phone 1 0x000a_0001_00_01_01_01_000003e8_00000000_000001f4_000003e8 0x0014_0000_00_01_01_01_000007d0_00000000_00000258_00000063

-- operator 500 marks root 10 valid once more; it deletes root 20
abbrev mark_10_again : List ℕ
mark_10_again = bytes 24 0x07_02_000a_0000_00_00_00000000_00000000_000001f4_00000000

abbrev delete_20 : List ℕ
delete_20 = bytes 24 0x06_02_0014_0000_00_00_00000000_00000000_000001f4_00000000

-- the mark past its date goes, whoever owns it, and the record stays its owner's
pub old_mark_taken : (accepted of_two ≡ true)
    × (code of_two mark_10_again ≡ 0)
    × ((certificate_at (decode of_two) 1).mark ≡ 1)
    × ((certificate_at (phone_after of_two mark_10_again) 1).mark ≡ 0)
    × (code of_two delete_20 ≡ 4)
unfolding computing
old_mark_taken = (refl, refl, refl, refl, refl)
