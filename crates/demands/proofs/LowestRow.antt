-- A table of tests and numbers: the number given is that of a row that applies, and of those the lowest. Assumes nothing.
use Prim.Native.Nat.{ℕ, ◌≤◌}
use mathlib.Core.{Bool.{Bool, true, false, ◌&&◌}, List.{List, [], ◌∷◌}, Logic.◌≢◌, Path.refl}
use native.Mathlib.Omega.{arith}
use lib.Dec.{T, leb, leb→le}
use Rattle.rules.specs.Words.{Check, ◌⇒◌, first}
use Rattle.laws.proofs.Tests.{and_l, and_r}
use Rattle.demands.specs.Runs.{Applies, here, later}

pub first_applies : (l : List Check) → first l ≢ 0 → Applies (first l) l
unfolding first
first_applies [] h = absurd (h refl)
first_applies ((true ⇒ n) ∷ l) h = here tt
first_applies ((false ⇒ n) ∷ l) h = later (first_applies l h)

-- numbers that do not fall, from k on
abbrev pub ascending : ℕ → List Check → Bool
ascending k [] = true
ascending k ((b ⇒ n) ∷ l) = leb k n && ascending n l

-- the number given lies between k and that of any row that applies
pub first_lowest : {n : ℕ} {l : List Check} (k : ℕ) → T (ascending k l) → Applies n l → (k ≤ first l) × (first l ≤ n)
unfolding first
first_lowest {n} k a (here {b = true} {l} t) = (leb→le k n (and_l (leb k n) (ascending n l) a), omega arith)
first_lowest k a (here {b = false} {l} t) = absurd t
first_lowest k a (later {c = true ⇒ m} {l} h) =
    let f = first_lowest m (and_r (leb k m) (ascending m l) a) h in
    (leb→le k m (and_l (leb k m) (ascending m l) a), omega arith)
first_lowest k a (later {c = false ⇒ m} {l} h) =
    let f = first_lowest m (and_r (leb k m) (ascending m l) a) h in
    (omega (arith, leb→le k m (and_l (leb k m) (ascending m l) a)), f.1)
