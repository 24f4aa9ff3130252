use Rattle.std.proofs.Common.{rules}
use Rattle.records.specs.Phone.{no_certificate}
use Rattle.rules.specs.ImageRules.{has_valid_operator}
use Rattle.sweep.proofs.FirstFound.{some_found}
use Rattle.lookup.proofs.has_valid_operator.Goals as goal

pub returns : goal.returns
unfolding has_valid_operator
returns c = some_found _ _ no_certificate _ c.certificate_slots-slots.ensures.0 _ c.first.ensures c.is_some.ensures (λ i b h p. search rules)
