-- One event on the bytes of an image: what its bytes say, the key that it names and the phone after it. Definitions only.
use Rattle.std.specs.Prelude.{ℕ, List}
use Rattle.records.specs.{Layout.event_read, Phone.{Phone, decode}, declared.Event.Event}
use Rattle.rules.specs.{Codes.executable_named, Step.step}

-- what an event's bytes say
abbrev pub event_of : List ℕ → Event
event_of v = event_read v 0

-- the signing key of the executable that it names, and the phone after it
abbrev pub key_named : List ℕ → List ℕ → ℕ
key_named l v = (executable_named (decode l) (event_of v).id).signing

abbrev pub phone_after : List ℕ → List ℕ → Phone
phone_after l v = decode (step l v).image
