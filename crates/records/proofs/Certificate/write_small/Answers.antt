use native.Mathlib.Omega.{arith}
use Rattle.records.proofs.Puts.{done, more, written}
use Rattle.records.proofs.Certificate.write_small.Goals as goal

pub returns : goal.returns
returns c =
    written
    (more c.write.ensures (more c.write-2.ensures (more c.write-3.ensures
    (more c.write-4.ensures (more c.write-5.ensures (more c.write-6.ensures done))))))
    (omega arith)
