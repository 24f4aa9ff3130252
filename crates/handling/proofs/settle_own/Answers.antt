use mathlib.Core.Path.{ap, ◌∙◌}
use Rattle.records.specs.Phone.{encode}
use Rattle.handling.proofs.settle_own.Goals as goal

pub returns : goal.returns
returns c =
    record { answer = c.done.ensures; image = c.settle_domain.ensures ∙ ap encode c.requires.s_value }
