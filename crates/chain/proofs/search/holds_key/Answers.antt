use mathlib.Core.Path.{refl}
use borrow.Author.Tests.{eq-eqb, ne_eqb}
use Rattle.bits.proofs.WordLaws.{any_left_none}
use Rattle.chain.proofs.WordsAny.{at_slot, goes_to, some_stops, some_goes_on}
use Rattle.chain.proofs.search.holds_key.Goals as goal

pub loop-i-init : goal.loop-i-init
loop-i-init c =
    rw c.into_iter-i-iterator.ensures.into_iter_gives (record { few = c.requires.framed.sized.certificates; fits = c.requires.among_bound }, refl)

pub certificate-requires-clause-i_in_bounds : goal.certificate-requires-clause-i_in_bounds
certificate-requires-clause-i_in_bounds c = let n = c.in-Some.ensures.steps in at_slot c.loop-i.invariant.0 n.0 n.1

pub returns-then-certificate-key : goal.returns-then-certificate-key
returns-then-certificate-key c =
    let n = c.in-Some.ensures.steps in
    some_stops c.loop-i.invariant.0 n.0 n.1 _ c.certificate.ensures c.loop-i.invariant.1 (eq-eqb _ _ c.if-certificate-key.true)

pub loop-i-preserved : goal.loop-i-preserved
loop-i-preserved c =
    let n = c.in-Some.ensures.steps in
    let g = c.loop-i.invariant.0 in
    (goes_to g n.0 n.1 n.2, some_goes_on g n.0 n.1 _ c.certificate.ensures n.2 c.loop-i.invariant.1 (ne_eqb _ _ c.if-certificate-key.false))

pub returns : goal.returns
returns c = any_left_none _ _ _ _ c.in-None.ensures.steps.0 c.loop-i.invariant.1
