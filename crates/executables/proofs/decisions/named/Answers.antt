use native.Mathlib.Omega.{arith}
use mathlib.Core.{Bool.not, Path.ap}
use Rattle.executables.proofs.ExecutableCodes.{id_told}
use Rattle.handling.proofs.Decided.{unformed, formed}
use Rattle.executables.proofs.decisions.named.Goals as goal

pub returns-then-not-id_form : goal.returns-then-not-id_form
returns-then-not-id_form c =
    unformed _ _ _ _ (id_told _ _ (omega arith) _ c.requires.kind_value) (c.id_form.ensures _) (ap not c.if-not-id_form.true)

pub returns : goal.returns
returns c =
    formed _ _ _ _ (id_told _ _ (omega arith) _ c.requires.kind_value) (c.id_form.ensures _) (ap not c.if-not-id_form.false) c.on_executable.ensures
