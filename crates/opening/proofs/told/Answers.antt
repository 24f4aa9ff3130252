use Rattle.opening.proofs.Offsets.{tells}
use Rattle.opening.proofs.told.Goals as goal

pub returns : goal.returns
returns c = tells _ c.fault_of-found.ensures c.offset.ensures c.from.ensures
