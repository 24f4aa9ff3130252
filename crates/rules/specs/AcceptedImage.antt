-- What is known of an accepted image, beside that it is one: what code asks before it goes by it. Definitions only.
use Rattle.std.specs.Prelude.{ℕ, ◌≤◌}
use mathlib.Core.{Bool.true, List.{List, Memᴰ}, Logic.◌≢◌, Path.◌≡◌}
use Rattle.records.specs.{Phone.{Trust, decode, certificate_at, executable_at}, Frame.Framed, declared.Certificate.Certificate}
use Rattle.rules.specs.ImageRules.{accepted}

-- I2 and I4 of keys: a key's records are of one domain, 1 to 3
pub record Keyed (t : Trust) : Type 0 where
  pub one_domain : (c e : Certificate) → Memᴰ c t.certificates → Memᴰ e t.certificates → c.key ≢ 0 → c.key ≡ e.key → c.domain ≡ e.domain
  pub domains : (c : Certificate) → Memᴰ c t.certificates → c.key ≢ 0 → (1 ≤ c.domain) × (c.domain ≤ 3)

-- an accepted image, with what code asks of one: its frame, one domain for a key, and domains that a table of four has room for
pub record AcceptedImage (l : List ℕ) : Type 0 where
  pub accepted : accepted l ≡ true
  pub framed : Framed l
  pub keyed : Keyed (decode l).trust
  pub certificate_domains : (i : ℕ) → (certificate_at (decode l) i).domain ≤ 3
  pub executable_domains : (i : ℕ) → (executable_at (decode l) i).domain ≤ 3
