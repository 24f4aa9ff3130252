use Rattle.std.proofs.Common.{rules}
use Rattle.records.specs.Phone.{no_certificate}
use Rattle.laws.proofs.More.{all_grows}
use Rattle.sweep.proofs.FirstBroken.{broken_found}
use Rattle.opening.proofs.sweeps.places_known.Goals as goal

pub returns : goal.returns
returns c = broken_found (all_grows _) no_certificate _ _ _ c.certificate_slots.ensures.0 c.first.ensures (λ i b h p. search rules)
