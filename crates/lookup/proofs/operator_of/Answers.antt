use Rattle.std.proofs.Common.{rules, ℕ, ◌≡◌, Bool, eqb}
use mathlib.Core.{Path.{sym, ap}}
use Rattle.records.specs.{declared.Card.Card, Phone.{no_card, decode}}
use Rattle.rules.specs.ImageRules.{operator_of}
use Rattle.sweep.specs.FirstPassing.{found}
use Rattle.sweep.proofs.FirstFound.{first_found}
use Rattle.lookup.proofs.FoundSlot.{at_within, at_named, nowhere_none, none_named}
use Rattle.lookup.proofs.operator_of.Goals.{After-first}
use Rattle.lookup.proofs.operator_of.Goals as goal

abbrev numbered : ℕ → Card → Bool
numbered n k = eqb k.number n

searched : (c : After-first) → c.first.result ≡ found (numbered c.args.n) (decode c.args.s.now).cards
searched c = first_found _ _ no_card _ c.card_count.ensures.0 c.first.ensures (λ i b h p. search rules)

pub card-requires-clause-i_in_bounds : goal.card-requires-clause-i_in_bounds
card-requires-clause-i_in_bounds c = at_within _ _ (searched (goal.at.card-requires-clause-i_in_bounds c).After-first) c.in-Some.is

pub returns-in-Some : goal.returns-in-Some
unfolding operator_of
returns-in-Some c = ap (λ k. k.operator) (at_named _ _ (searched (goal.at.returns-in-Some c).After-first) c.in-Some.is no_card c.card.ensures)

pub returns-in-None : goal.returns-in-None
unfolding operator_of
returns-in-None c = ap (λ k. k.operator) (sym (none_named _ no_card _ (nowhere_none _ _ (searched (goal.at.returns-in-None c).After-first) c.in-None.is)))
