use mathlib.Core.Path.{ap, ◌∙◌}
use Rattle.rules.specs.Chains.{chain_of}
use Rattle.records.specs.Phone.{decode}
use Rattle.executables.proofs.ExecutableWrites.{domain_written}
use Rattle.executables.proofs.effects.verify.Goals as goal

pub returns : goal.returns
returns c =
    let read = c.executable.ensures in (
      domain_written c.args.e c.requires.accepted_image c.requires.slot_value c.requires.slot_in_bounds c.requires.id_nonzero
          read c.chain_of-told.ensures c.set_domain.ensures,
      c.chain_of-told.ensures ∙ ap (λ x. chain_of (decode c.args.s.now).trust x.signing) read,
    )
