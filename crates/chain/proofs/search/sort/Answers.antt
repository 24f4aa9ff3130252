use Rattle.std.proofs.Common.{arith}
use Rattle.chain.proofs.Sorting.{sort_end, sort_other, sort_root, sort_unlinked, sort_link}
use Rattle.chain.proofs.search.sort.Goals as goal

pub loop-i-preserved-then-c-domain : goal.loop-i-preserved-then-c-domain
loop-i-preserved-then-c-domain c = sort_other _ _ c.loop-i.invariant (omega arith) c.certificate-c.ensures c.if-c-domain.true

pub loop-i-preserved-then-trusted_root : goal.loop-i-preserved-then-trusted_root
loop-i-preserved-then-trusted_root c =
    sort_root _ _ c.loop-i.invariant (omega arith) c.certificate-c.ensures c.if-c-domain.false c.trusted_root.ensures
    c.if-trusted_root.true c.with_slot-roots.ensures

pub loop-i-preserved-then-not-is_link : goal.loop-i-preserved-then-not-is_link
loop-i-preserved-then-not-is_link c =
    sort_unlinked _ _ c.loop-i.invariant (omega arith) c.certificate-c.ensures c.if-c-domain.false c.trusted_root.ensures
    c.if-trusted_root.false c.is_link.ensures c.if-not-is_link.true

pub loop-i-preserved : goal.loop-i-preserved
loop-i-preserved c =
    sort_link _ _ c.loop-i.invariant (omega arith) c.certificate-c.ensures c.if-c-domain.false c.trusted_root.ensures
    c.if-trusted_root.false c.is_link.ensures c.if-not-is_link.false c.with_slot-links.ensures

pub returns : goal.returns
returns c = sort_end _ _ c.loop-i.invariant (omega arith)
