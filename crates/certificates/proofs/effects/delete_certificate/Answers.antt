use mathlib.Core.Path.{refl}
use Rattle.records.specs.Phone.{no_certificate}
use Rattle.rules.specs.Effects.{delete_certificate}
use Rattle.certificates.proofs.Marking.{named_written}
use Rattle.certificates.proofs.effects.delete_certificate.Goals as goal

pub returns : goal.returns
unfolding delete_certificate
returns c = named_written c.args.e c.requires.accepted_image c.requires.named (λ x. no_certificate) refl c.clear_certificate.ensures
