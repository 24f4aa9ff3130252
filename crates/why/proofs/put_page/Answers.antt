use Prim.Native.Nat.{ℕ}
use mathlib.Core.Path.{◌≡◌, refl, subst}
use native.Mathlib.Omega.{arith}
use lib.ListN.{length}
use Rattle.octets.specs.Octets.{put}
use Rattle.explanations.specs.Why.{line}
use Rattle.why.specs.SentenceText.{page, lines_said}
use Rattle.why.proofs.{Sentences.sentence_small, Pages.{page_none, page_next}}
use Rattle.why.proofs.put_page.Goals as goal

pub loop-i-init : goal.loop-i-init
unfolding lines_said
loop-i-init c = let a = c.args in (omega arith, page_none a.out.now a.lines.now, refl)

pub loop-i-preserved : goal.loop-i-preserved
loop-i-preserved c =
    let v = c.loop-i in
    let a = c.args in
    let small = sentence_small v.above (line c.read-what.result c.read-id.result) in
    let next = page_next a.out.now a.lines.now v.i v.invariant.1 v.invariant.2 c.read-what.ensures c.read-id.ensures
    c.put_sentence-at.ensures in
    (omega (arith, small, c.put_sentence-at.ensures.1), next.0, next.1)

pub returns : goal.returns
returns c =
    let v = c.loop-i in
    let a = c.args in
    let all : v.i ≡ a.n = omega arith in
    let told = v.invariant.1 in
    subst (λ (k : ℕ). (v.out ≡ put a.out.now 0 (page 0 (lines_said a.lines.now k))) × (v.at ≡ length (page 0 (lines_said a.lines.now k)))) all
    (told.0, omega (arith, told.1))
