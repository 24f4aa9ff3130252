use Rattle.terms.proofs.FormTests.{id_form_is}
use Rattle.terms.proofs.forms.id_form.Goals as goal

pub returns : goal.returns
returns c = λ p. id_form_is p _ c.four_bytes.ensures.0 c.seldom.ensures.0
