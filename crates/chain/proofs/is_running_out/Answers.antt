use Prim.Native.Nat.{ℕ}
use mathlib.Core.{Bool.{Bool, true, false, not, ◌&&◌, and-true}, Path.{◌≡◌, refl, sym, ap, ◌∙◌}}
use lib.Dec.{eqb}
use Rattle.records.specs.declared.Certificate.{Certificate}
use Rattle.rules.specs.Chains.{in_date}
use Rattle.chain.specs.Breaks.{runs_out}
use Rattle.chain.proofs.is_running_out.Goals as goal

module _ (clock n : ℕ) (c : Certificate) {b : Bool} (q : b ≡ in_date n c) where
  -- b: whether it is in date at n too
  at_later : (a : Bool) → (a && not b) ≡ (a && not (in_date n c))
  at_later a = ap (λ b. a && not b) q

  still : b ≡ true → false ≡ runs_out clock n c
  unfolding runs_out
  still h =
      sym (never (eqb c.mark 1 && in_date clock c))
      ∙ ap (λ b. eqb c.mark 1 && in_date clock c && not b) (sym h)
      ∙ at_later (eqb c.mark 1 && in_date clock c)
    where
      never : (a : Bool) → (a && not true) ≡ false
      never true = refl
      never false = refl

  over : {d : Bool} → b ≡ false → d ≡ in_date clock c → (eqb c.mark 1 && d) ≡ runs_out clock n c
  unfolding runs_out
  over h e =
      ap (λ d. eqb c.mark 1 && d) e
      ∙ sym (and-true (eqb c.mark 1 && in_date clock c))
      ∙ ap (λ b. eqb c.mark 1 && in_date clock c && not b) (sym h)
      ∙ at_later (eqb c.mark 1 && in_date clock c)

pub returns-then-in_date : goal.returns-then-in_date
returns-then-in_date c = still _ _ _ c.in_date.ensures c.if-in_date.true

pub returns : goal.returns
returns c =
    over _ _ _ c.in_date.ensures c.if-in_date.false c.in_date-2.ensures
