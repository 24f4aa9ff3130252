use Prim.Native.Nat.{◌*◌, ◌≤◌}
use mathlib.Core.Path.{◌≡◌}
use Rattle.stream.proofs.JoinedTexts.{Put}
use Rattle.why.specs.SentenceText.{longest_sentence, page, lines_said}
use Rattle.why.proofs.{Pages.{last_id}}
use Rattle.why.proofs.put_page.Given as goal

-- the page of the first i lines stands, and the id above the next is that of the last of them
abbrev pub invariant-loop-i : goal.invariant-loop-i
invariant-loop-i l = (l.at ≤ l.i * longest_sentence)
    × Put l.initial.out 0 (page 0 (lines_said l.lines l.i)) l.out l.at × (l.above ≡ last_id 0 (lines_said l.lines l.i))
