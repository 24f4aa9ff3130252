use Rattle.terms.proofs.FormTests.{new_is}
use Rattle.terms.proofs.forms.new_certificate.Goals as goal

pub returns : goal.returns
returns c = new_is _ _ _ _ c.from.ensures c.from-2.ensures
