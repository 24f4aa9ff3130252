use mathlib.Core.Path.{◌≡◌}
use lib.ListN.{length}
use Rattle.records.specs.Phone.{decode}
use Rattle.reasons.specs.Lines.{climbed_lines, with_lines}
use Rattle.reasons.proofs.tell_chain.Given as goal

abbrev pub invariant-loop-i : goal.invariant-loop-i
invariant-loop-i l = (length l.lines ≡ length l.initial.lines)
    × (with_lines l.lines (climbed_lines (decode l.s).trust l.domain l.i l.wanted) ≡ with_lines l.initial.lines
    (climbed_lines (decode l.s).trust l.domain l.n l.key))
