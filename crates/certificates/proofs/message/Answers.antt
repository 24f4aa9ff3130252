use mathlib.Core.Path.{◌≡◌, refl, sym, ◌∙◌}
use Rattle.records.specs.Phone.{decode, encode}
use Rattle.rules.specs.{Forms.with_kind, Effects.{effect, message, enabled_by}, Step.done}
use Rattle.handling.proofs.{Handles.{settle_framed, settle_known, said_still, tried_settled, accepted_phone}, PlanLaws.on_code}
use Rattle.certificates.proofs.{MarksAndMessages.message_still, Refusing.told_on}
use Rattle.certificates.proofs.message.Goals as goal
use Rattle.certificates.proofs.message.Goals.{After-message-broken}

pub returns-in_err-message : goal.returns-in_err-message
returns-in_err-message c = told_on _ _ c.from_residual.ensures.1 _ c.message.ensures.code c.in_err-message.was

written : (c : After-message-broken) → c.message-broken.new.s ≡ encode (effect (with_kind 9 c.args.e) (decode c.args.s.now))
unfolding effect message enabled_by
written c = c.message-broken.ensures.image

pub settle_if-requires-clause-framed : goal.settle_if-requires-clause-framed
settle_if-requires-clause-framed c =
    settle_framed _ _ (written (goal.at.settle_if-requires-clause-framed c).After-message-broken) c.requires.accepted_image

pub settle_if-requires-clause-domains_known : goal.settle_if-requires-clause-domains_known
unfolding effect message
settle_if-requires-clause-domains_known c =
    settle_known _ (with_kind 9 c.args.e) (written (goal.at.settle_if-requires-clause-domains_known c).After-message-broken) c.requires.accepted_image refl

pub settle_if-requires-clause-s_value : goal.settle_if-requires-clause-s_value
settle_if-requires-clause-s_value c = λ b.
    said_still _ _ (written (goal.at.settle_if-requires-clause-s_value c).After-message-broken)
    (message_still _ (accepted_phone _ c.requires.accepted_image) c.args.e (sym c.message-broken.ensures.broken ∙ b))

pub returns : goal.returns
unfolding done
returns c =
    tried_settled _ _ (written (goal.at.returns c).After-message-broken) (on_code _ _ c.message.ensures.code c.in_ok-message.was) refl c.settle_if.ensures
