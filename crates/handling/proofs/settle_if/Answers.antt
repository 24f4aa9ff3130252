use mathlib.Core.Path.{sym, ap, ◌∙◌}
use Rattle.records.specs.Phone.{encode}
use Rattle.handling.proofs.settle_if.Goals as goal

pub returns-then-not-broken : goal.returns-then-not-broken
returns-then-not-broken c =
    record { answer = c.done.ensures; image = c.requires.framed.shaped ∙ ap encode (sym (c.requires.s_value (c.if-not-broken.true))) }
