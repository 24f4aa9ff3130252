-- What opening an image tells. Definitions only.
use Rattle.std.specs.Prelude.{ℕ, Bool, cond, Option, Some, None, Result, Ok, Err}
use mathlib.Core.{List.List, Path.◌≡◌}
use Rattle.rules.specs.{ImageRules.accepted, Faults.{at_rule, fault}, declared.Site.Site, declared.Fault.Fault, AcceptedImage.AcceptedImage}

-- a rule is kept, or there is a fault
abbrev pub kept_or : Bool → Fault → Result Unit Fault
kept_or kept f = cond kept (Ok tt) (Err f)

-- a rule is kept, unless it is broken at a site
abbrev pub kept_unless : ℕ → Option Site → Result Unit Fault
kept_unless rule None = Ok tt
kept_unless rule (Some site) = Err (at_rule rule site)

-- "Opening an image .. should also tell the first broken rule, 1 to 8, and a byte offset"
unfoldable pub opening : List ℕ → Result Unit Fault
opening l = kept_or (accepted l) (fault l)

pub record Opened (l : List ℕ) (r : Result Unit Fault) : Type 0 where
  pub answer : r ≡ opening l
  pub promise : r ≡ Ok tt → AcceptedImage l
