use mathlib.Core.Path.{ap, ◌∙◌}
use lib.Dec.{eqb}
use Rattle.records.proofs.Said.{executable_said}
use borrow.Author.Rules.{rules}
use Rattle.records.proofs.image.executable_has_id.Goals as goal

pub returns : goal.returns
returns c = c.is16.ensures ∙ ap (λ x. eqb x.id c.args.id) (executable_said _ (search rules) _ _ (search rules) (search rules))
