-- When the clock or the card leaves nothing to settle, and that neither touches the executables. Assumes nothing.
use mathlib.Core.{Bool.{Bool, true, false, cond, not, ◌||◌}, Path.{◌≡◌, refl, sym, ap, ◌∙◌}}
use lib.Dec.{T, eqb, eqb→eq}
use Rattle.records.specs.{Phone.{Phone, with_card}, declared.Event.Event}
use Rattle.rules.specs.{Words.any, Forms.with_kind, Codes.{code_of, card_wrong}}
use Rattle.rules.specs.Effects.{marked_operator, effect, changed, settle, card_rule, card_in, tick, power_up, card_out}
use Rattle.laws.proofs.{Accepted.Accepted, Tests.eq→eqb}
use Rattle.keeping.proofs.Unrefused.{unrefused}
use Rattle.chain.specs.Breaks.{runs_out}
use Rattle.chain.proofs.Still.{later_still, rule_idle, come_still}

module _ (p : Phone) (ok : Accepted p) (e : Event) where
  pub tick_still : any (runs_out p.trust.seen.clock e.key) p.trust.certificates ≡ false → changed (with_kind 1 e) p ≡ effect (with_kind 1 e) p
  unfolding changed effect tick
  tick_still h = later_still p ok e.key h

  -- no operator root on the phone is marked valid: all that the event does is to put the card in
  pub card_idle : T (not (any marked_operator p.trust.certificates)) → effect (with_kind 2 e) p ≡ with_card e.second p
  unfolding effect card_in
  card_idle h = rule_idle p ok e.second h

  -- a card that is let in comes where none is
  none_present : code_of p (with_kind 2 e) ≡ 0 → p.trust.seen.card ≡ 0
  unfolding card_wrong
  none_present z =
      eqb→eq p.trust.seen.card 0
      (go (eqb p.trust.seen.card 0) (unrefused p (with_kind 2 e) (eq→eqb (code_of p (with_kind 2 e)) 0 z)).right_card)
    where
      go : (b : Bool) → T (not (not b || false)) → T b
      go true h = tt
      go false h = absurd h

  pub card_still : code_of p (with_kind 2 e) ≡ 0 → T (not (any marked_operator p.trust.certificates)) → changed (with_kind 2 e) p ≡ effect (with_kind 2 e) p
  unfolding changed
  card_still z h = ap settle (card_idle h) ∙ come_still p ok e.second (none_present z) ∙ sym (card_idle h)

pub power_up_programs : (e : Event) (p : Phone) → (effect (with_kind 4 e) p).executables ≡ p.executables
unfolding effect power_up card_out card_in card_rule
power_up_programs e p = go (eqb e.second 0)
  where
    go : (b : Bool) → (cond b (card_out e p) (card_in e p)).executables ≡ p.executables
    go true = refl
    go false = refl
