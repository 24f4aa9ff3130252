use Rattle.terms.proofs.FormTests.{clock_form_is}
use Rattle.terms.proofs.forms.clock_form.Goals as goal

pub returns : goal.returns
returns c = λ p. clock_form_is p _ c.four_bytes.ensures.0 c.seldom.ensures.0
