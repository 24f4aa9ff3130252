-- The fields of an event that few kinds use. Definitions only.
use Rattle.std.specs.Prelude.{ℕ, ◌+◌, ◌*◌}
use Rattle.records.specs.declared.Event.{Event}

-- the two bytes of third and fourth as one number
abbrev pub two_bytes : Event → ℕ
two_bytes e = e.third * 256 + e.fourth

-- the four bytes from second to fourth as one number
abbrev pub four_bytes : Event → ℕ
four_bytes e = e.second * 65536 + two_bytes e

-- the long fields that hardly any kind uses, as a sum
abbrev pub rarely : Event → ℕ
rarely e = e.verifying + e.expiry

-- the long fields that few kinds use, as a sum
abbrev pub seldom : Event → ℕ
seldom e = e.verifying + e.owner + e.expiry
