use Rattle.std.proofs.Common.{rules}
use Rattle.differences.proofs.SameBytes.{differ_at_byte}
use Rattle.differences.proofs.Case.image_differs.Goals as goal

pub bounds-image-at : goal.bounds-image-at
bounds-image-at c = search (rules, differ_at_byte)

pub bounds-want-at : goal.bounds-want-at
bounds-want-at c = search (rules, differ_at_byte)
