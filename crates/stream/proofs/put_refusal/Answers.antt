use mathlib.Core.Path.{refl}
use Rattle.stream.proofs.JoinedTexts.{refusal_put}
use Rattle.stream.proofs.put_refusal.Goals as goal

pub returns : goal.returns
returns c =
    let a = c.args in
    refusal_put a.out.now a.rule a.offset (c.put_text.ensures, refl) c.put_column-ruled.ensures c.put_column-placed.ensures
    (c.put_text-2.ensures, refl)
