-- What the demands say of runs of events, over the bytes of an image and of the events. Definitions only.
use Rattle.std.specs.Prelude.{ℕ, ◌<◌}
use mathlib.Core.{Bool.{Bool, not, ◌||◌}, List.{List, [], ◌∷◌, map, Memᴰ}, Logic.{◌≢◌, ◌⊎◌}, Path.◌≡◌}
use lib.{Dec.{T, eqb}, ListN.length}
use Rattle.records.specs.{Layout.{row_byte, event_bytes}, Phone.{Phone, row_at, decode}, declared.Certificate.Certificate, declared.Event.Event}
use Rattle.rules.specs.{Words.{Check, ◌⇒◌}, Chains.{present, most_links}, Explicit.ChainWithin, ImageRules.valid_in}
use Rattle.rules.specs.{Codes.{executable_named, executable_known, has_permission, code}, Step.{step, run}, Demands.{withdrawing, giving, verify_event}}
use Rattle.keeping.specs.OneEvent.{event_of}

-- a row of the table of codes with this number applies
pub data Applies (n : ℕ) : List Check → Type 0 where
  here : {b : Bool} {l : List Check} → T b → Applies n ((b ⇒ n) ∷ l)
  later : {c : Check} {l : List Check} → Applies n l → Applies n (c ∷ l)

-- "A request changes nothing", so it may stand in either run
abbrev pub is_request : Event → Bool
is_request e = eqb e.kind 15

-- "Every code other than 0 leaves the image unchanged", so whatever is refused in the state that it meets may stand in either run
abbrev pub is_refused : List ℕ → List ℕ → Bool
is_refused l v = not (eqb (code l v) 0)

-- every event passes the test in the state that it meets, or is a request or refused there
abbrev pub EachInTurn : (Phone → Event → Bool) → List ℕ → List (List ℕ) → Type 0
EachInTurn f l [] = Unit {0}
EachInTurn f l (v ∷ vs) =
    T (f (decode l) (event_of v) || (is_request (event_of v) || is_refused l v)) × EachInTurn f (step l v).image vs

-- "any run of withdrawing events"
abbrev pub WithdrawingRun : List ℕ → List (List ℕ) → Type 0
WithdrawingRun = EachInTurn withdrawing

-- "any run of giving events"
abbrev pub GivingRun : List ℕ → List (List ℕ) → Type 0
GivingRun = EachInTurn giving

-- "where every application is verified": a verify event for each executable slot, in order
unfoldable pub verified : List ℕ → List ℕ
verified l = run l (map (λ x. event_bytes (verify_event x.id)) (decode l).executables)

-- ---- operator roots

-- a certificate of the phone that is present and a valid-marked operator root
pub record ValidOperator (p : Phone) (c : Certificate) : Type 0 where
  pub stored : Memᴰ c p.trust.certificates
  pub present : T (present p.trust.seen c)
  pub valid : T (valid_in 1 p.trust.seen.clock c)

-- ---- a grant

-- "table byte 2 grants; 1 grants exactly with a permission": the byte for the action a and the domain of executable n, which is 0 or one that it chains to
pub record Granted (p : Phone) (n a : ℕ) : Type 0 where
  pub number : n ≢ 0
  pub known : T (executable_known p n)
  pub action : a < length p.table
  pub byte : (row_byte (row_at p a) (executable_named p n).domain ≡ 2)
      ⊎ ((row_byte (row_at p a) (executable_named p n).domain ≡ 1) × T (has_permission (executable_named p n) a))
  pub chain : (executable_named p n).domain ≢ 0
      → ((executable_named p n).signing ≢ 0) × ChainWithin most_links p.trust (executable_named p n).domain (executable_named p n).signing
