use Rattle.std.proofs.Common.{rules}
use Rattle.records.specs.Phone.{decode, no_executable}
use Rattle.laws.proofs.RulesGrow.{i7_grows}
use Rattle.sweep.proofs.FirstBroken.{broken_found}
use Rattle.opening.proofs.sweeps.i7.Goals as goal

pub returns : goal.returns
returns c = broken_found (i7_grows (decode _)) no_executable _ _ _ c.executable_slots.ensures.0 c.first.ensures (λ i b h p. search rules)
