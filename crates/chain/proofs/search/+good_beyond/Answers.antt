use native.Mathlib.Omega.{arith}
use borrow.Author.Rules.{rules}
use lib.Bits.{xor_lt}
use Rattle.chain.proofs.Rounds.{found_lt, round_next, rounds_over, rounds_go_on}
use Rattle.chain.proofs.search.+good_beyond.Goals as goal

pub returns-then-n-eq0 : goal.returns-then-n-eq0
returns-then-n-eq0 t c = λ k r. rounds_over _ _ k _ r c.if-n-eq0.true

pub good_beyond-requires : goal.good_beyond-requires
good_beyond-requires t c =
    let f = found_lt _ _ _ c.verified-found.ensures in
    (omega arith, (search rules, (f, xor_lt _ _ _ c.requires.left_bound f)))

pub returns : goal.returns
returns t c = λ k r.
    rounds_go_on _ _ k _ c.if-n-eq0.false _ (c.good_beyond.ensures _ (round_next _ _ k r c.verified-found.ensures))
