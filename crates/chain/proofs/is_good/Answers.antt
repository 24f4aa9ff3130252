use Rattle.chain.proofs.Slot.{never_good, good_root, good_unlinked, good_by}
use Rattle.chain.proofs.is_good.Goals as goal

pub returns-then-n-eq0 : goal.returns-then-n-eq0
returns-then-n-eq0 c = never_good _ _ _ c.if-n-eq0.true

pub returns-then-trusted_root : goal.returns-then-trusted_root
returns-then-trusted_root c =
    good_root _ _ c.if-n-eq0.false _ _ c.certificate-c.ensures _ c.trusted_root.ensures c.if-trusted_root.true

pub returns-then-not-is_link : goal.returns-then-not-is_link
returns-then-not-is_link c =
    let q = c.certificate-c.ensures in
    let g = good_unlinked _ _ c.if-n-eq0.false _ _ q _ c.trusted_root.ensures c.if-trusted_root.false in
    g _ c.is_link.ensures (c.if-not-is_link.true)

pub returns : goal.returns
returns c =
    let q = c.certificate-c.ensures in
    let g = good_by _ _ c.if-n-eq0.false _ _ q _ c.trusted_root.ensures c.if-trusted_root.false in
    g _ c.is_link.ensures (c.if-not-is_link.false) _ c.links_within.ensures
