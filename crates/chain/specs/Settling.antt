-- Settling, a domain at a time. Definitions only.
use Rattle.std.specs.Prelude.{ℕ, ◌≤◌}
use mathlib.Core.{Bool.{cond}, List.{map, Memᴰ}}
use Rattle.records.specs.{Phone.{Trust, Phone, with_executables, in_domain}, declared.Executable.Executable}
use Rattle.chain.specs.SlotWords.{chained_in}

-- an executable with domain d that no longer chains to it
unfoldable pub settled_in : ℕ → Trust → Executable → Executable
settled_in d t x = cond (chained_in d t x) x (in_domain 0 x)

unfoldable pub settle_in : ℕ → Phone → Phone
settle_in d p = with_executables (map (settled_in d p.trust) p.executables) p

-- every executable has a domain from 0 to 3
pub record DomainsKnown (p : Phone) : Type 0 where
  pub known : (x : Executable) → Memᴰ x p.executables → x.domain ≤ 3
