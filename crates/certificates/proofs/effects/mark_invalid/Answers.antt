use mathlib.Core.Path.{refl}
use Rattle.records.specs.Phone.{marked}
use Rattle.rules.specs.Effects.{mark_invalid}
use Rattle.certificates.proofs.Marking.{named_written}
use Rattle.certificates.proofs.effects.mark_invalid.Goals as goal

pub returns : goal.returns
unfolding mark_invalid
returns c = named_written c.args.e c.requires.accepted_image c.requires.named (marked 0) refl c.set_mark.ensures
