-- 01, "One run of bench, whole", computed from its bytes, the ten boundaries that 01 marks P, and the two that 02, item 5, adds; that they hold is in
-- proofs/Boundaries.antt. Assumes nothing.
use Rattle.std.specs.Prelude.{ℕ}
use mathlib.Core.{Bool.true, List.{List, [], ◌∷◌, ◌++◌}, Path.{◌≡◌, refl}}
use Rattle.std.specs.Prelude.{length, get_or, take}
use Rattle.octets.specs.Octets.{bytes, put}
use Rattle.rules.specs.{declared.Answer.Answer, ImageRules.accepted, Codes.certificate_named, After.behind, Step.answers, Computing.computing}

-- the image: header, certificates 10, 11, 20 and a free slot, cards 1 and 2, executable 1 and a free slot, table
abbrev pub image : List ℕ
image =
    bytes 40 0x0001_0004_0002_0002_0002_0001_0000_0000_00000064_00000028_00000088_00000098_000000b0_000000b8
    ++ bytes 24 0x000a_0000_00_01_01_01_000003e8_00000000_000001f4_000003e8
    ++ bytes 24 0x000b_0000_01_01_01_01_000003e9_000003e8_000001f4_000000c8
    ++ bytes 24 0x0014_0002_00_01_01_01_000007d0_00000000_00000258_000003e8
    ++ bytes 24 0
    ++ bytes 8 0x0001_0000_000001f4
    ++ bytes 8 0x0002_0000_00000258
    ++ bytes 12 0x0001_01_00_000003e9_00000000
    ++ bytes 12 0
    ++ bytes 4 0x01_02_02_01
    ++ bytes 4 0x00_02_02_00

-- kind, actor, id, second, third, fourth, key, verifying key, owner, expiry
abbrev pub events : List (List ℕ)
events =
    bytes 24 0x0f_00_0001_0001_00_00_00000000_00000000_00000000_00000000
    ∷ bytes 24 0x01_00_0000_0000_00_00_000000c8_00000000_00000000_00000000
    ∷ bytes 24 0x0f_00_0001_0001_00_00_00000000_00000000_00000000_00000000
    ∷ bytes 24 0x01_00_0000_0000_00_00_000000c9_00000000_00000000_00000000
    ∷ bytes 24 0x0f_00_0001_0001_00_00_00000000_00000000_00000000_00000000
    ∷ bytes 24 0x0f_00_0001_0000_00_00_00000000_00000000_00000000_00000000
    ∷ bytes 24 0x0d_01_0001_0000_00_00_00000000_00000000_00000000_00000000
    ∷ bytes 24 0x0f_00_0001_0000_00_00_00000000_00000000_00000000_00000000
    ∷ bytes 24 0x02_00_0000_0002_00_00_00000000_00000000_00000000_00000000
    ∷ bytes 24 0x03_00_0000_0000_00_00_00000000_00000000_00000000_00000000
    ∷ bytes 24 0x0c_00_0001_0000_00_00_00000000_00000000_00000000_00000000
    ∷ bytes 24 0x07_01_000a_0000_00_00_00000000_00000000_00000000_00000000
    ∷ bytes 24 0x07_02_000a_0000_00_00_00000000_00000000_000001f4_00000000
    ∷ bytes 24 0x01_00_0000_0000_00_00_00000096_00000000_00000000_00000000
    ∷ []

abbrev told : ℕ → ℕ → ℕ → Answer
told c d n = record { code = c; domain = d; links = n; rule = 0; offset = 0 }

-- the lines of 01, less the event's number and kind
abbrev pub lines : List Answer
lines =
    told 0 1 2
    ∷ told 0 0 0
    ∷ told 0 1 2
    ∷ told 0 0 0
    ∷ told 15 0 0
    ∷ told 16 0 0
    ∷ told 0 0 0
    ∷ told 0 0 0
    ∷ told 0 0 0
    ∷ told 0 0 0
    ∷ told 0 0 0
    ∷ told 4 0 0
    ∷ told 0 0 0
    ∷ told 5 0 0
    ∷ []

pub image_accepted : accepted image ≡ true
unfolding computing
image_accepted = refl

pub run_as_printed : answers image events ≡ lines
unfolding computing
run_as_printed = refl

abbrev card_1_in : List ℕ
card_1_in = bytes 24 0x02_00_0000_0001_00_00_00000000_00000000_00000000_00000000

-- which the run itself does not print: "Setting the phone's key valid again when the card leaves" is a trap, and key 10 stays invalid after event 10
pub phone_key_stays_invalid : (certificate_named (behind image (take 10 events)) 10).mark ≡ 0
unfolding computing
phone_key_stays_invalid = refl

-- "No rule marks a key valid by itself.": nor does the card of its own operator, card 1, which comes then
pub no_card_revives : (certificate_named (behind image (take 10 events ++ (card_1_in ∷ []))) 10).mark ≡ 0
unfolding computing
no_card_revives = refl

-- ---- "Boundaries, marked P"

-- third party certificates 5 to 1, each verified by the next, of which 1 is a root; 6 and 7, which verify each other; executables 1, 2 and 3, signed
-- by the keys 4, 5 and 6
abbrev pub chains_image : List ℕ
chains_image =
    bytes 40 0x0001_0007_0000_0003_0001_0000_0000_0000_00000064_00000028_000000d0_000000d0_000000f4_000000f8
    ++ bytes 24 0x0005_0000_01_03_01_01_00000005_00000004_00000000_00000064
    ++ bytes 24 0x0004_0000_01_03_01_01_00000004_00000003_00000000_00000064
    ++ bytes 24 0x0003_0000_01_03_01_01_00000003_00000002_00000000_00000064
    ++ bytes 24 0x0002_0000_01_03_01_01_00000002_00000001_00000000_00000064
    ++ bytes 24 0x0001_0000_00_03_01_01_00000001_00000000_00000000_00000064
    ++ bytes 24 0x0006_0000_01_03_01_01_00000006_00000007_00000000_00000064
    ++ bytes 24 0x0007_0000_01_03_01_01_00000007_00000006_00000000_00000064
    ++ bytes 12 0x0001_00_00_00000004_00000000
    ++ bytes 12 0x0002_00_00_00000005_00000000
    ++ bytes 12 0x0003_00_00_00000006_00000000
    ++ bytes 4 0x00_02_02_02

abbrev pub verify_1 : List ℕ
verify_1 = bytes 24 0x0c_00_0001_0000_00_00_00000000_00000000_00000000_00000000

abbrev pub verify_2 : List ℕ
verify_2 = bytes 24 0x0c_00_0002_0000_00_00_00000000_00000000_00000000_00000000

abbrev pub verify_3 : List ℕ
verify_3 = bytes 24 0x0c_00_0003_0000_00_00_00000000_00000000_00000000_00000000

-- an image, a run of events, the number of one of them, from 0 on, and what it is to be told
pub record Boundary : Type 0 where
  pub start : List ℕ
  pub events : List (List ℕ)
  pub event : ℕ
  pub expected : Answer

abbrev pub in_the_run : ℕ → Answer → Boundary
in_the_run n a = record { start = image; events = events; event = n; expected = a }

abbrev pub at_a_chain : List ℕ → Answer → Boundary
at_a_chain v a = record { start = chains_image; events = v ∷ []; event = 0; expected = a }

-- 01's image with root 10 that expires at 150, and the clock there, and a second later
abbrev pub short_root : List ℕ
short_root = put image 60 (bytes 4 150)

abbrev pub clock_150 : List ℕ
clock_150 = bytes 24 0x01_00_0000_0000_00_00_00000096_00000000_00000000_00000000

abbrev pub clock_151 : List ℕ
clock_151 = bytes 24 0x01_00_0000_0000_00_00_00000097_00000000_00000000_00000000

-- executable 1 asks for action 1 behind a clock event
abbrev pub with_short_root : List ℕ → Answer → Boundary
with_short_root clock a = record { start = short_root; events = clock ∷ get_or events 0 [] ∷ []; event = 1; expected = a }

-- "a chain of 4 (links 4) and of 5 (none); two issued records verifying each other (none)"; 02, item 5: "the root at its last second and one later"
abbrev pub others : List Boundary
others =
    at_a_chain verify_1 (told 0 3 4)
    ∷ at_a_chain verify_2 (told 0 0 0)
    ∷ at_a_chain verify_3 (told 0 0 0)
    ∷ with_short_root clock_150 (told 0 1 2)
    ∷ with_short_root clock_151 (told 15 0 0)
    ∷ []

-- "events 1, 3, 5, 6, 8, 11, 13 above", and the others
abbrev pub boundaries : List Boundary
boundaries =
    in_the_run 0 (told 0 1 2)
    ∷ in_the_run 2 (told 0 1 2)
    ∷ in_the_run 4 (told 15 0 0)
    ∷ in_the_run 5 (told 16 0 0)
    ∷ in_the_run 7 (told 0 0 0)
    ∷ in_the_run 10 (told 0 0 0)
    ∷ in_the_run 12 (told 0 0 0)
    ∷ others

-- no answer of the rules
abbrev pub untold : Answer
untold = told 255 0 0

-- what the rules tell it
abbrev pub heard : Boundary → Answer
heard b = get_or (answers b.start b.events) b.event untold

pub chains_image_accepted : accepted chains_image ≡ true
unfolding computing
chains_image_accepted = refl

pub short_root_accepted : accepted short_root ≡ true
unfolding computing put
short_root_accepted = refl

pub twelve_boundaries : length boundaries ≡ 12
twelve_boundaries = refl

-- "Marks are not touched when a date passes.": root 10 a second later
pub mark_stays : (certificate_named (behind short_root (clock_151 ∷ [])) 10).mark ≡ 1
unfolding computing put
mark_stays = refl

-- the card rule's effect is on every operator root on the phone, past its date or not: card 2 comes, and takes that mark
pub expired_mark_goes : (certificate_named (behind short_root (clock_151 ∷ get_or events 8 [] ∷ [])) 10).mark ≡ 0
unfolding computing put
expired_mark_goes = refl

-- ---- a trap that neither the run nor the boundaries meet

-- executable 1 is verified, its root is marked invalid and valid again, and it asks
abbrev pub key_comes_back : List (List ℕ)
key_comes_back =
    verify_1
    ∷ bytes 24 0x08_04_0001_0000_00_00_00000000_00000000_00000000_00000000
    ∷ bytes 24 0x07_04_0001_0000_00_00_00000000_00000000_00000000_00000000
    ∷ bytes 24 0x0f_00_0001_0000_00_00_00000000_00000000_00000000_00000000
    ∷ []

-- "Re-trusting an executable when its key comes back, without verify": it stays without a domain
pub stays_untrusted : answers chains_image key_comes_back ≡ (told 0 3 4 ∷ told 0 0 0 ∷ told 0 0 0 ∷ told 15 0 0 ∷ [])
unfolding computing
stays_untrusted = refl
