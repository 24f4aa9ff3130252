use Rattle.opening.proofs.ByParts.{i5_spared}
use Rattle.opening.proofs.sweeps.i5_with.Goals as goal

pub returns-then-not-is_asked : goal.returns-then-not-is_asked
returns-then-not-is_asked c = search i5_spared
