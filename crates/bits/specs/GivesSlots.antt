-- What a walk through the slots of a word gives. Definitions only.
use Rattle.std.specs.Prelude.{ℕ, Option, MatchOption, ◌≡◌, ◌≢◌}
use lib.{Count.count_trailing_zeros}
use Rattle.bits.specs.{declared.slots.Slots.Slots, SlotWord.less_lowest}

-- the lowest slot of what is left, which goes on without it; none where none is left, and none is left then
abbrev pub GivesLowest : Slots → Option ℕ → Slots → Type 0
GivesLowest s r t =
    MatchOption r
    ((s.0 ≡ 0) × (t.0 ≡ 0))
    (λ i. (s.0 ≢ 0) × (i ≡ count_trailing_zeros 64 s.0) × (t.0 ≡ less_lowest 64 s.0))
