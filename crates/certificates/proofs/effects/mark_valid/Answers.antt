use mathlib.Core.{Bool.true, Path.{sym, ◌∙◌}}
use Rattle.handling.specs.Retiring.{retire}
use Rattle.certificates.proofs.Marking.{mapped_framed, marks_alone, marks_after_retiring}
use Rattle.certificates.proofs.effects.mark_valid.Goals as goal

pub set_mark-requires-clause-framed : goal.set_mark-requires-clause-framed
set_mark-requires-clause-framed c =
    (mapped_framed (retire true 0) c.requires.accepted_image.framed c.requires.named.within c.retire.ensures).0

pub set_mark-requires-clause-i_in_bounds : goal.set_mark-requires-clause-i_in_bounds
set_mark-requires-clause-i_in_bounds c =
    (mapped_framed (retire true 0) c.requires.accepted_image.framed c.requires.named.within c.retire.ensures).1

pub returns-then-on_a_card : goal.returns-then-on_a_card
returns-then-on_a_card c =
    marks_after_retiring c.args.e c.requires.accepted_image c.requires.named c.certificate-c.ensures
    (sym c.on_a_card.ensures ∙ c.if-on_a_card.true) c.retire.ensures c.set_mark.ensures

pub returns : goal.returns
returns c =
    marks_alone c.args.e c.requires.accepted_image c.requires.named c.certificate-c.ensures
    (sym c.on_a_card.ensures ∙ c.if-on_a_card.false) c.set_mark-2.ensures
