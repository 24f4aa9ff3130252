-- What a loop over slots has done after i of them. Definitions only.
use Rattle.std.specs.Prelude.{ℕ, zero, suc, List, [], ◌∷◌, ◌++◌, take, drop}

-- f of the number of each element and of the element
abbrev pub map_at : {A : Type 0} → (ℕ → A → A) → List A → List A
map_at f [] = []
map_at f (x ∷ l) = f zero x ∷ map_at (λ n. f (suc n)) l

-- the first i elements changed by f, the rest as they were
abbrev pub swept : {A : Type 0} → (ℕ → A → A) → ℕ → List A → List A
swept f i l = map_at f (take i l) ++ drop i l
