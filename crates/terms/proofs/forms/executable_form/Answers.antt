use Rattle.terms.proofs.FormTests.{executable_form_is}
use Rattle.terms.proofs.forms.executable_form.Goals as goal

pub returns : goal.returns
returns c = λ p. executable_form_is p _ c.four_bytes.ensures.0 c.seldom.ensures.0
