use Prim.Native.Nat.{ℕ, ◌+◌}
use mathlib.Core.Path.{sym, ap, ◌∙◌}
use native.Mathlib.Omega.{arith}
use borrow.Author.Rules.{rules}
use lib.ListN.{get_or}
use Rattle.stream.specs.PrintedLines.{heading}
use Rattle.stream.proofs.JoinedTexts.{said}
use Rattle.differences.specs.WrittenAnswers.{told_line}
use Rattle.differences.proofs.AnswerLines.{told_small, opened_small, begun, one_more, no_room, all_told}
use Rattle.differences.proofs.write_answers.Goals as goal

pub put_heading-headed-requires : goal.put_heading-headed-requires
unfolding heading
put_heading-headed-requires c = search rules

pub put_opened-at-requires : goal.put_opened-at-requires
unfolding heading
put_opened-at-requires c = search rules

pub loop-i-init : goal.loop-i-init
unfolding heading
loop-i-init c =
    let first = c.put_heading-headed.ensures in
    let opened = c.put_opened-at.ensures in
    let a = c.args in (
      search rules,
      omega (arith, opened_small a.opened, first.1, opened.1),
      begun a.opened a.events.now a.told.now a.got.now first opened,
    )

pub returns-then-got-at-clause-got_after : goal.returns-then-got-at-clause-got_after
returns-then-got-at-clause-got_after c =
    let v = c.loop-i in
    let a = c.args in sym (no_room a.opened a.events.now a.told.now v.got v.at v.i v.invariant.1 (search rules) (omega arith)) ∙ v.invariant.2

pub loop-i-preserved : goal.loop-i-preserved
loop-i-preserved c =
    let v = c.loop-i in
    let a = c.args in
    let next = c.put_told-at.ensures in
    let same = ap (λ (k : ℕ). told_line a.opened (v.i + 1) k (get_or a.told.now v.i 0)) (sym c.kind_of.ensures) in
    let put = said v.got v.at same next in (
      search rules,
      omega (arith, told_small a.opened (v.i + 1) c.kind_of.result (get_or a.told.now v.i 0), next.1),
      one_more a.opened a.events.now a.told.now v.got v.at v.i v.invariant.1 (search rules) (omega arith) put ∙ v.invariant.2,
    )

pub returns-clause-got_after : goal.returns-clause-got_after
returns-clause-got_after c =
    let v = c.loop-i in
    let a = c.args in sym (all_told a.opened a.events.now a.told.now v.got v.at v.i v.invariant.1 (search rules)) ∙ v.invariant.2
