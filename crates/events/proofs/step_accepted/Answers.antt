use Rattle.events.proofs.Steps.{short_stepped, handled_stepped}
use Rattle.events.proofs.step_accepted.Goals as goal

pub returns-then-v-ne-SIZE : goal.returns-then-v-ne-SIZE
returns-then-v-ne-SIZE c = short_stepped _ _ c.requires c.if-v-ne-SIZE.true _ c.told.ensures

pub returns : goal.returns
returns c =
    handled_stepped _ _ c.requires c.if-v-ne-SIZE.false _ _ (λ j. (c.type_inv.s j).fits) c.handle.ensures
