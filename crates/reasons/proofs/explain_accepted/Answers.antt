use Rattle.std.proofs.Common.{rules}
use Rattle.rules.specs.Codes.{is_executable}
use Rattle.lookup.proofs.FoundSlot.{at_within}
use Rattle.reasons.proofs.Whole.{told_no_id, told_unknown, told_known}
use Rattle.reasons.proofs.explain_accepted.Goals as goal

pub returns-then-id-eq0 : goal.returns-then-id-eq0
returns-then-id-eq0 c = search (rules, told_no_id)

pub executable-requires-clause-i_in_bounds : goal.executable-requires-clause-i_in_bounds
executable-requires-clause-i_in_bounds c = at_within (is_executable _) _ c.executable_slot.ensures c.in-Some.is

pub returns-in-None : goal.returns-in-None
returns-in-None c = search (rules, told_unknown)

pub returns-in-Some : goal.returns-in-Some
returns-in-Some c = search (rules, told_known)
