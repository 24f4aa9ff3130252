use mathlib.Core.Path.{sym, ◌∙◌}
use Rattle.chain.proofs.{WordsAny.at_slot, Levels.{up_begin, up_fits, up_end, up_known, up_found, up_more}}
use Rattle.chain.proofs.search.up.Goals as goal

pub loop-i-init : goal.loop-i-init
loop-i-init c =
    rw c.into_iter-i-iterator.ensures.into_iter_gives
    (up_begin _ _ _ (record { few = c.requires.framed.sized.certificates; fits = c.requires.level_bound }))

pub certificate-key-requires-clause-i_in_bounds : goal.certificate-key-requires-clause-i_in_bounds
certificate-key-requires-clause-i_in_bounds c = let n = c.in-Some.ensures.steps in at_slot c.loop-i.invariant.going n.0 n.1

pub holds_key-requires-clause-among_bound : goal.holds_key-requires-clause-among_bound
holds_key-requires-clause-among_bound c = search up_fits

pub loop-i-preserved-then-holds_key : goal.loop-i-preserved-then-holds_key
loop-i-preserved-then-holds_key c =
    let n = c.in-Some.ensures.steps in
    up_known _ _ _ c.loop-i.invariant n.0 n.1 n.2 c.certificate-key.ensures (sym c.if-holds_key.true ∙ c.holds_key.ensures)

pub returns-in_err-links : goal.returns-in_err-links
returns-in_err-links c =
    let n = c.in-Some.ensures.steps in
    c.from_residual.ensures ∙ up_found _ _ _ c.loop-i.invariant n.0 n.1 n.2 c.certificate-key.ensures c.level_of.ensures c.in_err-links.was

pub loop-i-preserved : goal.loop-i-preserved
loop-i-preserved c =
    let n = c.in-Some.ensures.steps in
    up_more _ _ _ c.loop-i.invariant n.0 n.1 n.2 c.certificate-key.ensures c.level_of.ensures c.in_ok-links.was

pub returns : goal.returns
returns c = up_end _ _ _ c.loop-i.invariant c.in-None.ensures.steps.0
