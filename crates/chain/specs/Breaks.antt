-- What can leave an executable without its chain. Definitions only.
use Rattle.std.specs.Prelude.{ℕ, Bool, not, ◌&&◌, eqb}
use Rattle.records.specs.{declared.Certificate.Certificate, declared.Event.Event}
use Rattle.rules.specs.{Chains.in_date, ImageRules.third_party_root, Effects.enabled_by}

-- a record that is marked valid, as an issued one always is, in date at the clock, and no longer at t
unfoldable pub runs_out : ℕ → ℕ → Certificate → Bool
runs_out clock t c = eqb c.mark 1 && in_date clock c && not (in_date t c)

-- a third party root that is enabled, and no longer after a message
unfoldable pub disables : Event → Certificate → Bool
disables e c = third_party_root c && eqb c.enabled 1 && not (eqb (enabled_by e c) 1)
