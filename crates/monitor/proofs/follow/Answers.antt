use mathlib.Core.Path.{refl, ap, ◌∙◌}
use native.Mathlib.Omega.{arith}
use borrow.Author.Rules.{rules}
use Rattle.octets.specs.Octets.{put}
use Rattle.monitor.proofs.{RunLaws.{left_all, left_less, left_none}, PlainAnswers.{plain_bytes}}
use Rattle.monitor.proofs.follow.Goals as goal

pub loop-i-init : goal.loop-i-init
loop-i-init c = (refl, search rules, left_all _ _ _ _)

pub one-a-requires-clause-accepted_image : goal.one-a-requires-clause-accepted_image
one-a-requires-clause-accepted_image c = c.loop-i.invariant.1

pub tell-requires : goal.tell-requires
tell-requires c =
    let r = c.loop-i.invariant.2.room in
    omega arith

pub loop-i-preserved : goal.loop-i-preserved
loop-i-preserved c =
    let one = c.one-a.ensures in
    let left = c.loop-i.invariant.2 in
    let same = plain_bytes _ _ c.loop-i.invariant.1 one.stepped in
    (search rules, one.accepted, left_less _ _ _ _ _ _ _ left (omega arith) (search rules) _ _ _ one.stepped (c.tell.ensures ∙ ap (put _ _) same))

pub shape_of-image : goal.shape_of-image
shape_of-image c = c.loop-i.invariant.0

pub shape_of-answers : goal.shape_of-answers
shape_of-answers c = c.loop-i.invariant.2.room

pub returns : goal.returns
returns c = left_none _ _ _ _ _ _ _ c.loop-i.invariant.2 (omega arith)
