use native.Mathlib.Omega.{arith}
use mathlib.Core.Path.{refl}
use Rattle.why.proofs.Sentences.{about_put}
use Rattle.why.proofs.put_about.Goals as goal

pub returns : goal.returns
returns c =
    let a = c.args in
    about_put a.out.now a.at a.before.now a.n a.behind.now (omega arith) (c.put_text.ensures, refl) c.put_number-numbered.ensures
    (c.put_text-2.ensures, refl)
