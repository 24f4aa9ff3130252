use Rattle.std.proofs.Common.{rules}
use Rattle.rules.specs.declared.Site.{Site}
use Rattle.opening.proofs.ByParts.{told_at, i3_present, i3_places, i3_cards}
use Rattle.opening.proofs.i3.Goals as goal

pub returns-then-not-known_place : goal.returns-then-not-known_place
returns-then-not-known_place c = search i3_present

pub returns-in_err-broken : goal.returns-in_err-broken
returns-in_err-broken c =
    let told = told_at _ _ 3 Site.Certificate _ c.places_known.ensures c.map.ensures.cases (λ i site p. search rules) c.broken-2.ensures in
    i3_places _ c.card_present.ensures c.known_place.ensures c.if-not-known_place.false told c.in_err-broken.was (search rules)

pub returns : goal.returns
returns c =
    let told = told_at _ _ 3 Site.Certificate _ c.places_known.ensures c.map.ensures.cases (λ i site p. search rules) c.broken-2.ensures in
    i3_cards _ c.card_present.ensures c.known_place.ensures c.if-not-known_place.false told c.in_ok-broken.was
    (told_at _ _ 3 Site.Card _ c.cards.ensures c.map-2.ensures.cases (λ i site p. search rules) c.broken-3.ensures)
