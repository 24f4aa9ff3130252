use mathlib.Core.Path.{◌∙◌}
use Rattle.records.proofs.FramedWrites.{card_written}
use Rattle.records.proofs.image.set_card.Goals as goal

pub returns : goal.returns
returns c = c.write.ensures ∙ search card_written
