-- What the theorems say of an explanation, as propositions. Definitions only.
use Rattle.std.specs.Prelude.{ℕ, suc, ◌≤◌, ◌<◌}
use mathlib.Core.{Bool.{Bool, cond, not, ◌&&◌}, List.{List, [], ◌∷◌, Memᴰ}, Path.◌≡◌}
use lib.{Dec.T, ListN.length}
use Rattle.records.specs.{Phone.Trust, declared.Certificate.Certificate, declared.Executable.Executable}
use Rattle.rules.specs.{Words.{Check, ◌⇒◌}, Chains.good}
use Rattle.explanations.specs.Why.{Line, reasons, chained, unsigned, held}

-- how many pass the test
abbrev pub count : {A : Type 0} → (A → Bool) → List A → ℕ
count f [] = 0
count f (x ∷ l) = cond (f x) (suc (count f l)) (count f l)

-- the four cases of an executable: it chains; its key is 0, or nobody's; a record has its key, and it does not chain
abbrev pub cases : Trust → Executable → List Bool
cases t x =
    chained t x
    ∷ unsigned x
    ∷ (not (unsigned x) && not (held t x))
    ∷ (not (unsigned x) && held t x && not (chained t x))
    ∷ []

-- numbers that rise, the first above n
abbrev pub Rising : ℕ → List ℕ → Type 0
Rising n [] = Unit {0}
Rising n (m ∷ l) = (n < m) × Rising m l

-- "The named reason is true, those before it are not"
pub data First (n : ℕ) : List Check → Type 0 where
  here : {b : Bool} {l : List Check} → T b → First n ((b ⇒ n) ∷ l)
  later : {b : Bool} {m : ℕ} {l : List Check} → T (not b) → First n l → First n ((b ⇒ m) ∷ l)

-- a line that gives a reason: it names a stored record with the key k
pub record Refusal (t : Trust) (k : ℕ) (n : Line) : Type 0 where
  pub certificate : Certificate
  pub stored : Memᴰ certificate t.certificates
  pub key : certificate.key ≡ k
  pub named : certificate.id ≡ n.id
  pub first : First n.what (reasons t certificate)

-- "at each link the lowest certificate id that serves": of domain d, with the key that is asked for, and good within the links that are left
abbrev pub LowestEach : Trust → ℕ → ℕ → List Certificate → Type 0
LowestEach t d k [] = Unit {0}
LowestEach t d k (c ∷ l) =
    ((e : Certificate) → Memᴰ e t.certificates → e.domain ≡ d → e.key ≡ k → T (good (suc (length l)) t e) → c.id ≤ e.id)
    × LowestEach t d c.verifying l

-- the ids of the first chain come before those of the second, or are the same: the lower at the first place where they differ, from the signer up
abbrev pub NotAfter : List Certificate → List Certificate → Type 0
NotAfter [] m = Unit {0}
NotAfter (c ∷ l) [] = Unit {0}
NotAfter (c ∷ l) (e ∷ m) = (c.id ≤ e.id) × (c.id ≡ e.id → NotAfter l m)
