use Rattle.reasons.proofs.Whole.{told_as, links_few, told_chained, told_unsigned, told_unheld, told_refused}
use mathlib.Core.Bool.{not}
use mathlib.Core.Path.{ap}
use Rattle.reasons.proofs.explain_on.Goals as goal

pub tell_chained-requires-clause-links_le_most_links : goal.tell_chained-requires-clause-links_le_most_links
tell_chained-requires-clause-links_le_most_links c = links_few _ _ c.chain_of-c.ensures

pub returns-then-c-ne0 : goal.returns-then-c-ne0
returns-then-c-ne0 c =
    told_as _ _ (told_chained _ _ _ c.chain_of-c.ensures c.if-c-ne0.true) c.tell_chained.ensures

pub returns-then-x-eq0 : goal.returns-then-x-eq0
returns-then-x-eq0 c = told_as _ _ (told_unsigned _ _ c.if-x-eq0.true) c.tell_one.ensures

pub returns-then-not-is_held : goal.returns-then-not-is_held
returns-then-not-is_held c =
    let none = told_unheld _ _ c.if-x-eq0.false c.is_held.ensures (ap not c.if-not-is_held.true) in
    told_as _ _ none c.tell_one-then-not-is_held.ensures

pub returns : goal.returns
returns c =
    let found = c.chain_of-c in
    let asked = c.is_held in
    let none = told_refused _ _ _ found.ensures c.if-c-ne0.false c.if-x-eq0.false asked.ensures (ap not c.if-not-is_held.false) in
    told_as _ _ none c.tell_reasons.ensures
