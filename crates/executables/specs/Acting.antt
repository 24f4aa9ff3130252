-- What is decided and told of the executable that an event names. Definitions only.
use Rattle.std.specs.Prelude.{ℕ, Bool, cond, Result}
use Rattle.bits.specs.Bits.{set_bit, clear_bit}
use Rattle.records.specs.{Phone.{Phone, executable_at}, declared.Event.Event}
use Rattle.rules.specs.{declared.Chained.Chained, Words.{first, first_place}, Chains.chain_of, Codes.is_executable}
use Rattle.handling.specs.Plans.{plan, executable_rows}

-- what stands against an event of kind k on the executable that it names, besides its form, or the slot of that executable
abbrev pub acting : ℕ → Phone → Event → Result ℕ ℕ
acting k p e = plan (first (executable_rows k p e)) (first_place (is_executable e.id) p.executables)

-- the kind of an event about a permission, and what it does to the word of permissions
abbrev pub permission_kind : Bool → ℕ
permission_kind given = cond given 13 14

abbrev pub permission_write : Bool → ℕ → ℕ → ℕ
permission_write given = cond given set_bit clear_bit

-- what the executable in slot i chains to
abbrev pub chained_at : Phone → ℕ → Chained
chained_at p i = chain_of p.trust (executable_at p i).signing
