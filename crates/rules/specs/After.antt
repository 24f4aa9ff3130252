-- One event and a run of events on a phone, where I1 to I8 are not asked again. Definitions only.
use Rattle.std.specs.Prelude.{ℕ}
use mathlib.Core.{Bool.cond, List.{List, [], ◌∷◌, map}}
use Rattle.std.specs.Prelude.{eqb}
use Rattle.records.specs.{Layout.event_read, Phone.{Phone, decode}, declared.Event.Event}
use Rattle.rules.specs.{Codes.code_of, Effects.changed}

-- the phone after an event that is done, and the same phone after one that is refused
unfoldable pub after : Event → Phone → Phone
after e p = cond (eqb (code_of p e) 0) (changed e p) p

unfoldable pub after_all : List Event → Phone → Phone
after_all [] p = p
after_all (e ∷ es) p = after_all es (after e p)

-- the phone of an image behind events of 24 bytes: as `run` has it where the image is accepted
abbrev pub behind : List ℕ → List (List ℕ) → Phone
behind l vs = after_all (map (λ v. event_read v 0) vs) (decode l)
