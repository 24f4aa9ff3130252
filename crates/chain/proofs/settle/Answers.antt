use Rattle.chain.proofs.SettledInTurn.{turn_framed, turns_written}
use Rattle.chain.proofs.settle.Goals as goal

pub settle_domain-requires-2 : goal.settle_domain-requires-2
settle_domain-requires-2 c =
    turn_framed 1 c.args.s.now c.requires.framed c.settle_domain.ensures

pub settle_domain-requires-3 : goal.settle_domain-requires-3
settle_domain-requires-3 c =
    let framed = turn_framed 1 c.args.s.now c.requires.framed c.settle_domain.ensures in
    turn_framed 2 c.settle_domain.new.s framed c.settle_domain-2.ensures

pub returns : goal.returns
returns c =
    turns_written c.args.s.now c.settle_domain.new.s c.settle_domain-2.new.s c.requires.domains_known
    c.settle_domain.ensures c.settle_domain-2.ensures c.settle_domain-3.ensures
