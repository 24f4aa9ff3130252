-- What stands against a request by the table. Definitions only.
use Rattle.std.specs.Prelude.{ℕ}
use mathlib.Core.{Bool.{not, ◌&&◌}, List.{List, [], ◌∷◌}}
use Rattle.std.specs.Prelude.{eqb}
use Rattle.records.specs.{Layout.row_byte, Phone.{Phone, row_at}, declared.Executable.Executable}
use Rattle.rules.specs.{Words.{Check, ◌⇒◌}, Codes.has_permission}

-- action a of executable x, by the table byte for its domain
abbrev pub table_rows : Phone → Executable → ℕ → List Check
table_rows p x a =
    (eqb (row_byte (row_at p a) x.domain) 0 ⇒ 15)
    ∷ ((eqb (row_byte (row_at p a) x.domain) 1 && not (has_permission x a)) ⇒ 16)
    ∷ []
