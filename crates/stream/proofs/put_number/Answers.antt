use native.Mathlib.Omega.{arith}
use mathlib.Core.Path.{ap, ◌∙◌}
use lib.ListN.{length}
use Rattle.octets.specs.Octets.{put}
use Rattle.stream.proofs.Texts.{decimal_is, fewest_small}
use Rattle.stream.proofs.put_number.Goals as goal

pub put_text-requires : goal.put_text-requires
put_text-requires c =
    let d = c.decimal-k.ensures in
    omega (arith, d.in_bounds.1, fewest_small _ c.args.n d.len (omega arith))

pub overflow_add-result : goal.overflow_add-result
overflow_add-result c =
    let a = c.args in
    omega (arith, fewest_small _ a.n c.decimal-k.ensures.len (omega arith))

pub returns : goal.returns
returns c =
    let d = c.decimal-k.ensures in
    let a = c.args in
    let text = d.digits ∙ decimal_is _ a.n d.len (fewest_small _ a.n d.len (omega arith)) in
    let count = ap length text in
    (c.put_text.ensures ∙ ap (put a.out.now a.at) text, omega (arith, d.in_bounds.1))
