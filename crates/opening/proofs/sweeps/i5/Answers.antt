use Rattle.std.proofs.Common.{rules}
use Rattle.records.specs.Phone.{decode, no_certificate}
use Rattle.laws.proofs.RulesGrow.{i5_grows}
use Rattle.sweep.proofs.FirstBroken.{broken_found}
use Rattle.opening.proofs.sweeps.i5.Goals as goal

pub returns : goal.returns
returns c = broken_found (i5_grows (decode _)) no_certificate _ _ _ c.certificate_slots.ensures.0 c.first.ensures (λ i b h p. search rules)
