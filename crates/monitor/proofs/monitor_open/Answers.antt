use mathlib.Core.Path.{ap, ◌∙◌}
use Rattle.monitor.specs.Told.{packed}
use Rattle.monitor.proofs.monitor_open.Goals as goal

pub returns : goal.returns
returns c = c.pack.ensures ∙ ap packed c.told.ensures
