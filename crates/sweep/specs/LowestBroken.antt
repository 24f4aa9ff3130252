-- Where a rule is broken, if it is. Definitions only.
use Rattle.std.specs.Prelude.{ℕ, Bool, cond, List, Option, Some, None}
use Rattle.rules.specs.Faults.{lowest}

-- the lowest record that breaks the rule alone or together with lower ones, if one does
unfoldable pub broken_at : {A : Type 0} → (List A → Bool) → List A → Option ℕ
broken_at rule l = cond (rule l) None (Some (lowest rule l))
