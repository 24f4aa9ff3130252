-- Where a line goes there is room for it, and it ends within the buffer. Assumes nothing.
use Prim.Native.Nat.{ℕ, ◌+◌, ◌≤◌}
use mathlib.Core.{Path.◌≡◌, Bool.{Bool, true, false, cond}}
use native.Mathlib.Omega.{arith}
use lib.{Dec.{T, leb, leb→le}, ListN.length}
use Rattle.rules.specs.declared.Answer.{Answer}
use Rattle.stream.specs.PrintedLines.{line, longest_line, line_place}
use Rattle.stream.proofs.JoinedTexts.{line_ends}

pub room_there : (used size : ℕ) → longest_line ≤ size → line_place used size + longest_line ≤ size
room_there used size h = go (leb (used + longest_line) size) (λ t. leb→le (used + longest_line) size t)
  where
    go : (b : Bool) → (T b → used + longest_line ≤ size) → cond b used 0 + longest_line ≤ size
    go true f = f tt
    go false f = omega arith

pub line_within : (used size n kind : ℕ) (a : Answer) {r : ℕ} → r ≡ line_place used size + length (line n kind a) → longest_line ≤ size → r ≤ size
line_within used size n kind a told h = omega (arith, room_there used size h, line_ends n kind a _ told)
