use mathlib.Core.Path.{ap, ◌∙◌}
use lib.Dec.{eqb}
use Rattle.records.proofs.Said.{certificate_said}
use borrow.Author.Rules.{rules}
use Rattle.records.proofs.image.certificate_has_id.Goals as goal

pub returns : goal.returns
returns c = c.is16.ensures ∙ ap (λ x. eqb x.id c.args.id) (certificate_said _ _ (search rules))
