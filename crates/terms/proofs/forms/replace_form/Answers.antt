use Rattle.terms.proofs.FormTests.{replace_form_is}
use Rattle.terms.proofs.forms.replace_form.Goals as goal

pub returns : goal.returns
returns c = λ p. replace_form_is p _ c.two_bytes.ensures.0
