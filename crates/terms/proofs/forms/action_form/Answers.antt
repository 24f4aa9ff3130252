use Rattle.terms.proofs.FormTests.{action_form_is}
use Rattle.terms.proofs.forms.action_form.Goals as goal

pub returns : goal.returns
returns c = λ p. action_form_is p _ c.two_bytes.ensures.0 c.seldom.ensures.0
