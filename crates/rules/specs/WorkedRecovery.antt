-- 02, item 4: a lost key replaced on the phone of 01's run, computed from bytes. Assumes nothing.
use Rattle.std.specs.Prelude.{ℕ}
use mathlib.Core.{List.{List, [], ◌∷◌}, Path.{◌≡◌, refl}}
use Rattle.std.specs.Prelude.{take}
use Rattle.octets.specs.Octets.{bytes}
use Rattle.records.specs.Phone.{certificate_at}
use Rattle.rules.specs.{declared.Answer.Answer, After.behind, Step.answers, Computing.computing, WorkedRun.image}

-- executable 1 asks for action 1; recovery record 40 is installed beside root 10; the root is replaced with it; executable 1 asks and is verified;
-- certificate 11, issued under the old key, is deleted and issued anew under the new one; executable 1 is verified and asks; then a replace with the
-- owner of another operator, and one with a key that is not the recovery key
abbrev pub events : List (List ℕ)
events =
    bytes 24 0x0f_00_0001_0001_00_00_00000000_00000000_00000000_00000000
    ∷ bytes 24 0x05_02_0028_0000_02_01_00000fa0_00000000_000001f4_00000000
    ∷ bytes 24 0x10_02_000a_0028_00_00_000003ea_00000fa0_000001f4_00000384
    ∷ bytes 24 0x0f_00_0001_0001_00_00_00000000_00000000_00000000_00000000
    ∷ bytes 24 0x0c_00_0001_0000_00_00_00000000_00000000_00000000_00000000
    ∷ bytes 24 0x06_02_000b_0000_00_00_00000000_00000000_000001f4_00000000
    ∷ bytes 24 0x05_02_000b_0000_01_01_000003e9_000003ea_000001f4_000003e8
    ∷ bytes 24 0x0c_00_0001_0000_00_00_00000000_00000000_00000000_00000000
    ∷ bytes 24 0x0f_00_0001_0001_00_00_00000000_00000000_00000000_00000000
    ∷ bytes 24 0x10_02_000a_0028_00_00_000003ec_00000fa0_00000258_00000384
    ∷ bytes 24 0x10_02_000a_0028_00_00_000003ec_000003ea_000001f4_00000384
    ∷ []

abbrev told : ℕ → ℕ → ℕ → Answer
told c d n = record { code = c; domain = d; links = n; rule = 0; offset = 0 }

pub lost_key_replaced : answers image events
    ≡ (told 0 1 2 ∷ told 0 0 0 ∷ told 0 0 0 ∷ told 15 0 0 ∷ told 0 0 0 ∷ told 0 0 0 ∷ told 0 0 0 ∷ told 0 1 2 ∷ told 0 1 2 ∷ told 17 0 0 ∷ told 17 0 0 ∷ [])
unfolding computing
lost_key_replaced = refl

-- "The root keeps its id and slot, takes the new key, owner and expiry, and is marked valid."
pub root_afterwards : certificate_at (behind image (take 3 events)) 0
    ≡ record { id = 10; place = 0; kind = 0; domain = 1; mark = 1; enabled = 1; key = 1002; verifying = 0; owner = 500; expiry = 900 }
unfolding computing
root_afterwards = refl

-- "phone only, domain 1 or 2, verifying key 0, mark 0, enabled 1": as it is installed
pub recovery_installed : certificate_at (behind image (take 2 events)) 3
    ≡ record { id = 40; place = 0; kind = 2; domain = 1; mark = 0; enabled = 1; key = 4000; verifying = 0; owner = 500; expiry = 0 }
unfolding computing
recovery_installed = refl
