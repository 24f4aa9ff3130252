use native.Mathlib.Omega.{arith}
use Prim.Native.Nat.{ℕ, ◌+◌}
use mathlib.Core.{List.{List, [], ◌∷◌}, Path.{ap, ◌∙◌}}
use Rattle.octets.specs.Octets.{put}
use Rattle.records.proofs.Puts.{put_next}
use Rattle.stream.specs.Decimal.{decimal}
use Rattle.stream.proofs.put_column.Goals as goal

pub returns : goal.returns
returns c =
    let a = c.args in
    let number = c.put_number.ensures in (
      number.0
          ∙ ap (λ (l : List ℕ). put l (a.at + 1) (decimal a.n)) c.put_text.ensures
          ∙ put_next a.out.now a.at (32 ∷ []) (decimal a.n) (omega arith),
      omega (arith, number.1),
    )
