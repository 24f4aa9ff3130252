use native.Mathlib.Omega.{arith}
use Rattle.octets.proofs.ByteLaws.{put_part}
use Rattle.octets.proofs.store.Goals as goal

pub returns : goal.returns
returns c = put_part _ _ _ c.copy_from_slice.ensures.after (omega arith)
