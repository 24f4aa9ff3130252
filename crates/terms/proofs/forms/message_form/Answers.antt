use Rattle.terms.proofs.FormTests.{message_long, message_short}
use Rattle.terms.proofs.forms.message_form.Goals as goal

pub returns-then-e-gt-MOST_LISTED : goal.returns-then-e-gt-MOST_LISTED
returns-then-e-gt-MOST_LISTED c = λ p. message_long p _ c.if-e-gt-MOST_LISTED.true

pub returns : goal.returns
returns c =
    let few = c.if-e-gt-MOST_LISTED.false in
    λ p. message_short p _ few _ _ c.listed_not_zero.ensures c.unlisted_zero.ensures
