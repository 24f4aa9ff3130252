use Rattle.std.proofs.Common.{rules, ◌≡◌}
use Rattle.records.specs.Phone.{decode, no_certificate}
use Rattle.sweep.specs.FirstPassing.{found}
use Rattle.sweep.proofs.FirstFound.{first_found}
use Rattle.chain.proofs.FirstHolder.{of_key, holder_in, holder_here, holder_none}
use Rattle.chain.proofs.domain_of.Goals.{After-first}
use Rattle.chain.proofs.domain_of.Goals as goal

searched : (c : After-first) → c.first.result ≡ found (of_key (decode c.args.s.now).trust c.args.key) (decode c.args.s.now).trust.certificates
searched c = first_found _ _ no_certificate _ c.certificate_slots-slots.ensures.0 c.first.ensures (λ i b h p. search rules)

pub certificate-requires-clause-i_in_bounds : goal.certificate-requires-clause-i_in_bounds
certificate-requires-clause-i_in_bounds c =
    holder_in (decode c.args.s.now).trust _ (searched (goal.at.certificate-requires-clause-i_in_bounds c).After-first) c.in-Some.is

pub returns-in-Some : goal.returns-in-Some
returns-in-Some c = holder_here _ _ (searched (goal.at.returns-in-Some c).After-first) c.in-Some.is c.certificate.ensures

pub returns-in-None : goal.returns-in-None
returns-in-None c = holder_none _ _ (searched (goal.at.returns-in-None c).After-first) c.in-None.is
