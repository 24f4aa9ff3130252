-- Where a record is found, and what it is worth. Assumes nothing.
use Prim.Native.Nat.{ℕ, ◌<◌}
use mathlib.Core.{Bool.{Bool, true, false, cond, ◌||◌, true≢false}, List.{List, [], ◌∷◌}, Path.{◌≡◌, refl, sym, ap, ◌∙◌}}
use lib.ListN.{length, get_or}
use Rattle.std.specs.Prelude.{Option, Some, None, is_some}
use Rattle.rules.specs.Words.{any, find, first_place}
use Rattle.laws.proofs.Places.{place_named}
use Rattle.sweep.specs.FirstPassing.{found}
use Rattle.lookup.proofs.FirstWithin.{first_within}

unfoldable slot : Option ℕ → ℕ
slot (Some i) = i
slot None = 0

module _ {A : Type 0} (t : A → Bool) (l : List A) where
  abbrev where_if : Bool → Option ℕ
  where_if b = cond b (Some (first_place t l)) None

  module _ {r : Option ℕ} (q : r ≡ found t l) where
    pub told : is_some r ≡ any t l
    unfolding found
    told = ap is_some q ∙ each (any t l)
      where
        each : (b : Bool) → is_some (where_if b) ≡ b
        each true = refl
        each false = refl

    pub nowhere_none : r ≡ None → any t l ≡ false
    nowhere_none e = sym told ∙ ap is_some e

    module _ {i : ℕ} (e : r ≡ Some i) where
      pub at_some : any t l ≡ true
      at_some = sym told ∙ ap is_some e

      pub at_first : i ≡ first_place t l
      unfolding found slot
      at_first = ap slot (sym e ∙ q ∙ ap where_if at_some)

      pub at_within : i < length l
      at_within = first_within t l at_first at_some

      -- what is read there is the first that passes
      pub at_named : (d : A) {x : A} → x ≡ get_or l i d → x ≡ find t d l
      at_named d read = place_named t l at_first refl d read

-- where none passes there is none to find
pub none_named : {A : Type 0} (t : A → Bool) (d : A) (l : List A) → any t l ≡ false → find t d l ≡ d
unfolding any find
none_named t d [] h = refl
none_named t d (x ∷ l) h = go (t x) h (λ e. none_named t d l e)
  where
    go : (b : Bool) → (b || any t l) ≡ false → (any t l ≡ false → find t d l ≡ d) → cond b x (find t d l) ≡ d
    go true e rest = absurd (true≢false e)
    go false e rest = rest e
