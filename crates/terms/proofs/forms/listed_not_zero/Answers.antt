use mathlib.Core.{Bool.not, Path.{refl, ◌∙◌}}
use native.Mathlib.Omega.{arith}
use borrow.{Author.Tests.tests, Author.Rules.rules}
use lib.{Dec.eqb, ListN.get_or}
use Rattle.std.proofs.lemmas.{Iterator.YieldsList-from_range, Iterator.Search.all_from_yields_List}
use Rattle.rules.specs.Forms.{eight}
use Rattle.terms.proofs.Listed.{all_by_place}
use Rattle.terms.proofs.forms.listed_not_zero.Goals as goal

pub returns : goal.returns
returns c =
    let e = c.args.e in
    all_from_yields_List (λ k. not (eqb (get_or (eight e) k 0) 0)) _ _ _ c.all.ensures.ran (YieldsList-from_range 0 e.fourth e.fourth refl (omega arith))
    (λ x b q k. search (rules, tests))
    ∙ all_by_place (λ n. not (eqb n 0)) (eight e) 0 e.fourth (omega arith)
