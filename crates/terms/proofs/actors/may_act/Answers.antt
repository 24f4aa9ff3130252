use Prim.Native.Nat.{ℕ, ◌+◌, ◌*◌, ◌/◌, ◌^◌, ◌<◌}
use mathlib.Core.{Bool.Bool, List.{List, [], ◌∷◌}, Path.◌≡◌}
use lib.{Dec.{T, eqb}, Bits.bit_and, ListN.get_or}
use Rattle.rules.specs.Actors.{may_act}
use Rattle.terms.proofs.Finite.{all_below, below, same, same_is}
use Rattle.terms.proofs.actors.may_act.Goals as goal

-- what a table says of a kind, a domain and an actor
abbrev says : List ℕ → ℕ → ℕ → ℕ → Bool
says t k d a = eqb (bit_and (get_or t k 0 / 2 ^ (8 * d + a)) 1) 1

-- that it says what the rules say: of one actor, of one domain, of one kind, and of all
abbrev of_actor : List ℕ → ℕ → ℕ → ℕ → Bool
of_actor t k d a = same (says t k d a) (may_act k d a)

abbrev of_domain : List ℕ → ℕ → ℕ → Bool
of_domain t k d = all_below 5 (of_actor t k d)

abbrev of_kind : List ℕ → ℕ → Bool
of_kind t k = all_below 4 (of_domain t k)

by_table : (t : List ℕ) → T (all_below 17 (of_kind t)) → (k d a : ℕ) → k < 17 → d < 4 → a < 5 → says t k d a ≡ may_act k d a
by_table t r k d a hk hd ha =
    let of-k = below 17 (of_kind t) r k hk in
    let of-d = below 4 (of_domain t k) of-k d hd in
    same_is (says t k d a) (may_act k d a) (below 5 (of_actor t k d) of-d a ha)

-- the table of the code
actors : List ℕ
actors =
    0
    ∷ 0x01010101
    ∷ 0x01010101
    ∷ 0x01010101
    ∷ 0x01010101
    ∷ 0x1e080400
    ∷ 0x12080400
    ∷ 0x10080400
    ∷ 0x10080400
    ∷ 0x10101010
    ∷ 0x1e1e1e1e
    ∷ 0x1e1e1e1e
    ∷ 0x01010101
    ∷ 0x02020202
    ∷ 0x02020202
    ∷ 0x01010101
    ∷ 0x00080400
    ∷ []

pub returns : goal.returns
unfolding may_act actors
returns c = by_table actors tt _ _ _ c.requires.0 c.requires.1 c.requires.2
