use Rattle.terms.proofs.FormTests.{owned_form_is}
use Rattle.terms.proofs.forms.owned_form.Goals as goal

pub returns : goal.returns
returns c =
    λ p. owned_form_is p _ c.four_bytes.ensures.0 c.rarely.ensures.0 c.is_somebody.ensures
