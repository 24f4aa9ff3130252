use Rattle.std.proofs.Common.{◌≡◌, ◌≤◌, length, take, drop}
use Rattle.differences.specs.WrittenAnswers.{text_room, lines_behind, written}
use Rattle.differences.proofs.write_answers.Given as goal

-- with what the answers from the i-th on come to behind the text so far, it is all of it
abbrev pub invariant-loop-i : goal.invariant-loop-i
invariant-loop-i l = (length l.got ≡ text_room) × (l.at ≤ length l.got)
    × (lines_behind l.opened l.events l.i (take l.at l.got) (drop l.i l.told) ≡ written l.opened l.events l.told)
