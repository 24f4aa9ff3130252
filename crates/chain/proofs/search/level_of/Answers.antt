use Rattle.std.proofs.Common.{arith}
use Rattle.chain.proofs.Levels.{asked, sweep_begin, sweep_end, sweep_other, sweep_root, sweep_unlinked, sweep_link}
use Rattle.chain.proofs.search.level_of.Goals as goal

pub loop-i-init : goal.loop-i-init
loop-i-init c = sweep_begin _ _ _ _

pub loop-i-preserved-then-not-has_key : goal.loop-i-preserved-then-not-has_key
loop-i-preserved-then-not-has_key c =
    sweep_other _ _ _ _ c.loop-i.invariant (omega arith) c.certificate-c.ensures
    (asked _ _ _ {d = c.args.domain} c.has_key.ensures (omega arith)) c.if-not-has_key.true

pub returns-then-trusted_root : goal.returns-then-trusted_root
returns-then-trusted_root c =
    sweep_root _ _ _ _ c.loop-i.invariant (omega arith) c.certificate-c.ensures
    (asked _ _ _ {d = c.args.domain} c.has_key.ensures (omega arith)) c.if-not-has_key.false
    c.trusted_root.ensures c.if-trusted_root.true

pub loop-i-preserved-then-not-is_link : goal.loop-i-preserved-then-not-is_link
loop-i-preserved-then-not-is_link c =
    sweep_unlinked _ _ _ _ c.loop-i.invariant (omega arith) c.certificate-c.ensures
    (asked _ _ _ {d = c.args.domain} c.has_key.ensures (omega arith)) c.if-not-has_key.false
    c.trusted_root.ensures c.if-trusted_root.false c.is_link.ensures c.if-not-is_link.true

pub loop-i-preserved : goal.loop-i-preserved
loop-i-preserved c =
    sweep_link _ _ _ _ c.loop-i.invariant (omega arith) c.certificate-c.ensures
    (asked _ _ _ {d = c.args.domain} c.has_key.ensures (omega arith)) c.if-not-has_key.false
    c.trusted_root.ensures c.if-trusted_root.false c.is_link.ensures c.if-not-is_link.false c.with_slot-found.ensures

pub returns : goal.returns
returns c = sweep_end _ _ _ _ c.loop-i.invariant (omega arith)
