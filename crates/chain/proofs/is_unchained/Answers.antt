use Rattle.std.proofs.Common.{arith}
use Rattle.chain.proofs.ByDomain.{domain_known, unfit_own}
use Rattle.chain.proofs.is_unchained.Goals as goal

pub good_in-requires : goal.good_in-requires
good_in-requires c = (omega arith, domain_known _ c.requires.t c.args.i c.requires.i_in_bounds c.executable-x.ensures)

pub returns : goal.returns
returns c = unfit_own _ c.executable-x.ensures c.if-x-eq-UNTRUSTED.false c.is_chained.ensures
