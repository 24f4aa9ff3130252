-- A slot that is the first to pass is a slot. Assumes nothing.
use Prim.Native.Nat.{ℕ, ◌<◌}
use mathlib.Core.{Bool.{Bool, true}, List.List, Path.{◌≡◌, refl, ◌∙◌}}
use lib.{Dec.ltb→lt, ListN.length}
use Rattle.rules.specs.Words.{any, first_place}
use Rattle.laws.proofs.{Accepts.true_T, Places.place_told}

-- a slot that is the first to pass, where one passes
pub first_within : {A : Type 0} (t : A → Bool) (l : List A) {i : ℕ} → i ≡ first_place t l → any t l ≡ true → i < length l
first_within t l {i} at some = ltb→lt i (length l) (true_T _ (place_told t l at refl ∙ some))
