use native.Mathlib.Omega.{arith}
use borrow.Author.Tests.{ne_eqb}
use Rattle.why.specs.SentenceText.{certificate, ended, is_verified_by, about, link_sentence}
use Rattle.stream.proofs.JoinedTexts.{then}
use Rattle.why.proofs.Sentences.{about_ends}
use Rattle.why.proofs.put_link.Goals as goal

pub put_about-requires-2 : goal.put_about-requires-2
put_about-requires-2 c = omega (arith, about_ends certificate c.args.id is_verified_by c.args.at c.put_about-verified.ensures.1)

pub returns : goal.returns
unfolding link_sentence
returns c =
    let a = c.args in
    rw (ne_eqb a.above 0 c.if-above-eq0.false)
    (then a.out.now a.at (about certificate a.id is_verified_by) (about certificate a.above ended) (omega arith)
    c.put_about-verified.ensures c.put_about-2.ensures)
