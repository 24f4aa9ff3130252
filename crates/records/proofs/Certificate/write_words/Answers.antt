use native.Mathlib.Omega.{arith}
use Rattle.records.proofs.Puts.{done, more, written_from}
use Rattle.records.proofs.Certificate.write_words.Goals as goal

pub returns : goal.returns
returns c =
    written_from (more c.write.ensures (more c.write-2.ensures (more c.write-3.ensures (more c.write-4.ensures done)))) (omega arith)
