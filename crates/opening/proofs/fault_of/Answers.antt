use Rattle.std.proofs.Common.{rules}
use Rattle.opening.proofs.Offsets.{no_fault_told, fault_told}
use Rattle.opening.proofs.fault_of.Goals as goal

pub returns-in-Ok : goal.returns-in-Ok
returns-in-Ok c = search (rules, no_fault_told)

pub returns-in-Err : goal.returns-in-Err
returns-in-Err c = search (rules, fault_told)
