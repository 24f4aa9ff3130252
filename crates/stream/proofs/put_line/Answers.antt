use native.Mathlib.Omega.{arith}
use mathlib.Core.Path.{refl}
use Rattle.stream.proofs.JoinedTexts.{line_put}
use Rattle.stream.proofs.put_line.Goals as goal

pub returns : goal.returns
returns c =
    let a = c.args in
    line_put a.out.now a.at (omega arith) a.n a.kind a.a c.put_number-numbered.ensures c.put_column-kinded.ensures
    c.put_column-coded.ensures c.put_column-placed.ensures c.put_column-linked.ensures (c.put_text.ensures, refl)
