use Prim.Native.Nat.{◌-◌}
use mathlib.Core.Path.{refl, ap, ◌∙◌}
use native.Mathlib.Omega.{arith}
use borrow.{Author.Tests.tests, Author.Rules.rules}
use lib.{Dec.eqb, ListN.{get_or, length-drop}}
use Rattle.std.proofs.lemmas.{List.take_all, Iterator.YieldsList-from_range, Iterator.Search.all_from_yields_List}
use Rattle.rules.specs.{Words.all_zero, Forms.{eight, unlisted}}
use Rattle.terms.proofs.Listed.{all_by_place, all_zero_is}
use Rattle.terms.proofs.forms.unlisted_zero.Goals as goal

pub returns : goal.returns
returns c =
    let e = c.args.e in
    all_from_yields_List (λ k. eqb (get_or (eight e) k 0) 0) _ _ _ c.all.ensures.ran (YieldsList-from_range e.fourth 8 (8 - e.fourth) refl refl)
    (λ x b q k. search (rules, tests))
    ∙ all_by_place (λ n. eqb n 0) (eight e) e.fourth (8 - e.fourth) (omega arith)
    ∙ all_zero_is _ ∙ ap all_zero (take_all (8 - e.fourth) (unlisted e) (omega (arith, length-drop e.fourth (eight e))))
