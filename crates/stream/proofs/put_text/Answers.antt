use native.Mathlib.Omega.{arith}
use mathlib.Core.Path.{refl, ◌∙◌}
use lib.ListN.{length}
use Rattle.std.proofs.lemmas.Slice.{put_mid-paste}
use Rattle.stream.proofs.Texts.{paste_put}
use Rattle.stream.proofs.put_text.Goals as goal

pub returns : goal.returns
returns c =
    let a = c.args in
    let text = a.text.now in
    put_mid-paste a.at _ a.out.now _ text (length text) c.copy_from_slice.ensures.after (omega arith) refl ∙ paste_put a.out.now a.at text
