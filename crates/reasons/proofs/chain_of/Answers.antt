use Rattle.std.proofs.Common.{arith}
use mathlib.Core.Path.{◌∙◌}
use Rattle.reasons.proofs.FirstDomain.{unsigned_chain, passed_more, first_chain, no_chain}
use Rattle.reasons.proofs.chain_of.Goals as goal

pub returns-then-key-eq0 : goal.returns-then-key-eq0
returns-then-key-eq0 c = c.no_chain.ensures ∙ unsigned_chain _ _ c.if-key-eq0.true

pub loop-domain-init : goal.loop-domain-init
loop-domain-init c = λ e lo lt. absurd (omega arith)

pub returns-then-links-ne0 : goal.returns-then-links-ne0
returns-then-links-ne0 c =
    first_chain _ _ c.if-key-eq0.false _ (omega arith) (omega arith) c.loop-domain.invariant c.links_of-links.ensures c.if-links-ne0.true

pub loop-domain-preserved : goal.loop-domain-preserved
loop-domain-preserved c = passed_more _ _ _ c.loop-domain.invariant c.links_of-links.ensures c.if-links-ne0.false

pub returns : goal.returns
returns c = c.no_chain-2.ensures ∙ no_chain _ _ c.if-key-eq0.false _ c.loop-domain-test.false c.loop-domain.invariant
