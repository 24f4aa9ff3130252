use native.Mathlib.Omega.{arith}
use Rattle.records.proofs.Puts.{put_next}
use Rattle.records.proofs.Certificate.write.Goals as goal

pub returns : goal.returns
returns c =
    rw (c.write_words.ensures, c.write_small.ensures) (put_next _ _ _ _ (omega arith))
