use mathlib.Core.Path.{ap, ◌∙◌}
use Rattle.rules.specs.Effects.{replaced, replace}
use Rattle.certificates.proofs.Marking.{named_written}
use Rattle.certificates.proofs.effects.replace.Goals as goal

pub returns : goal.returns
unfolding replace
returns c =
    named_written c.args.e c.requires.accepted_image c.requires.named (replaced c.args.e)
    (c.replaced.ensures ∙ ap (replaced c.args.e) c.certificate-c.ensures) c.write_certificate.ensures
