use Rattle.std.proofs.Common.{arith}
use mathlib.Core.Path.{sym, ◌∙◌}
use native.Mathlib.Nat.{zero-add}
use Rattle.bits.proofs.WordLaws.{keep_left_none}
use Rattle.chain.specs.SlotWords.{verified_by}
use Rattle.chain.proofs.{WordsAny.{at_slot, goes_to, found_skips, found_takes}, Rounds.{verified_nothing, found_fits}}
use Rattle.chain.proofs.search.verified.Goals as goal

pub returns-then-fresh-eq0 : goal.returns-then-fresh-eq0
returns-then-fresh-eq0 c = search verified_nothing

pub loop-i-init : goal.loop-i-init
loop-i-init c =
    rw c.into_iter-i-iterator.ensures.into_iter_gives (record { few = c.requires.framed.sized.certificates; fits = c.requires.left_bound }, zero-add _)

pub certificate-requires-clause-i_in_bounds : goal.certificate-requires-clause-i_in_bounds
certificate-requires-clause-i_in_bounds c = let n = c.in-Some.ensures.steps in at_slot c.loop-i.invariant.0 n.0 n.1

pub loop-i-preserved-then-not-holds_key : goal.loop-i-preserved-then-not-holds_key
unfolding verified_by
loop-i-preserved-then-not-holds_key c =
    let n = c.in-Some.ensures.steps in
    let g = c.loop-i.invariant.0 in
    (goes_to g n.0 n.1 n.2, found_skips g n.0 n.1 _ c.certificate.ensures n.2 _ c.loop-i.invariant.1 (sym c.holds_key.ensures ∙ c.if-not-holds_key.true))

pub overflow_shl-found : goal.overflow_shl-found
overflow_shl-found c = let n = c.in-Some.ensures.steps in omega (arith, at_slot c.loop-i.invariant.0 n.0 n.1, c.requires.framed.sized.certificates)

pub overflow_add-found : goal.overflow_add-found
unfolding verified_by
overflow_add-found c =
    let n = c.in-Some.ensures.steps in
    let g = c.loop-i.invariant.0 in
    let k = found_takes g n.0 n.1 _ c.certificate.ensures n.2 _ c.loop-i.invariant.1 (sym c.holds_key.ensures ∙ c.if-not-holds_key.false) in
    let f = found_fits _ _ _ g _ _ k in
    omega arith

pub loop-i-preserved : goal.loop-i-preserved
unfolding verified_by
loop-i-preserved c =
    let n = c.in-Some.ensures.steps in
    let g = c.loop-i.invariant.0 in
    (goes_to g n.0 n.1 n.2, found_takes g n.0 n.1 _ c.certificate.ensures n.2 _ c.loop-i.invariant.1 (sym c.holds_key.ensures ∙ c.if-not-holds_key.false))

pub returns : goal.returns
returns c = keep_left_none _ _ _ _ _ c.in-None.ensures.steps.0 c.loop-i.invariant.1
