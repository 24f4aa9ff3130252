-- An event of the clock or the card that is done: what settling asks for after its effect, and that what it leaves is what the rules say.
-- Assumes nothing.
use Prim.Native.Nat.{ℕ}
use mathlib.Core.{Bool.{Bool, true, false, not, true≢false}, List.List, Path.{◌≡◌, refl, sym, ap, subst, ◌∙◌}}
use lib.Dec.{T}
use Rattle.records.specs.{Phone.{with_card, decode, encode}, Frame.Framed, declared.Event.Event}
use Rattle.rules.specs.{declared.Answer.Answer, Words.any, AcceptedImage.AcceptedImage, Forms.with_kind, Codes.code_of}
use Rattle.rules.specs.{Effects.{marked_operator, effect, changed, settle, tick, card_rule, card_in, card_out, power_up}, Step.{answer_done, done}}
use Rattle.std.specs.Prelude.{Ok}
use Rattle.chain.specs.{Breaks.runs_out, Settling.DomainsKnown}
use Rattle.handling.specs.{Plans.plan, Handled.{Tried, Settled}}
use Rattle.handling.proofs.PlanLaws.{on_code}
use Rattle.handling.proofs.Handles.{tried_still, tried_settled, settle_framed, settle_known, said_still, accepted_phone}
use Rattle.device.proofs.TimeAndCard.{tick_still, card_idle, card_still, power_up_programs}

-- nothing stands against an event of kind k, by its decision
abbrev pub Granted : ℕ → List ℕ → Event → Type 0
Granted k l e = Ok (tt {0}) ≡ plan (code_of (decode l) (with_kind k e)) (tt {0})

-- the effect of an event of kind k is written as l₁, and broken tells whether a chain can have broken
pub record Effected (k : ℕ) (l : List ℕ) (e : Event) (l₁ : List ℕ) (broken : Bool) : Type 0 where
  pub accepted : AcceptedImage l
  pub image : l₁ ≡ encode (effect (with_kind k e) (decode l))
  pub programs : (effect (with_kind k e) (decode l)).executables ≡ (decode l).executables
  pub still : broken ≡ false → changed (with_kind k e) (decode l) ≡ effect (with_kind k e) (decode l)
  pub told : answer_done 0 0 ≡ done (with_kind k e) (changed (with_kind k e) (decode l))

module _ {k : ℕ} {l : List ℕ} {e : Event} {l₁ : List ℕ} {broken : Bool} (f : Effected k l e l₁ broken) where
  pub settle_asks : Framed l₁ × (DomainsKnown (decode l₁) × (broken ≡ false → settle (decode l₁) ≡ decode l₁))
  settle_asks = (
    settle_framed l (with_kind k e) f.image f.accepted,
    (settle_known l (with_kind k e) f.image f.accepted f.programs, λ h. said_still l (with_kind k e) f.image (f.still h)),
  )

  pub settle_ends : Granted k l e → {x : Answer} {l₂ : List ℕ} → Settled l₁ x l₂ → Tried l (with_kind k e) (Ok x) l₂
  settle_ends z s = tried_settled l (with_kind k e) f.image (on_code (code_of (decode l) (with_kind k e)) tt {r = Ok tt} z refl) f.told s

-- ---- of each kind

module _ {l : List ℕ} (e : Event) (a : AcceptedImage l) {l₁ : List ℕ} where
  pub ticked : {b : Bool} → b ≡ any (runs_out (decode l).trust.seen.clock e.key) (decode l).trust.certificates
      → l₁ ≡ encode (tick e (decode l)) → Effected 1 l e l₁ b
  unfolding effect tick done
  ticked q w = record {
    accepted = a;
    image = w;
    programs = refl;
    still = λ h. tick_still (decode l) (accepted_phone l a) e (sym q ∙ h);
    told = refl;
  }

  pub put_in : l₁ ≡ encode (card_in e (decode l)) → Effected 2 l e l₁ true
  unfolding effect card_in card_rule done
  put_in w = record { accepted = a; image = w; programs = refl; still = λ h. absurd (true≢false h); told = refl }

  pub taken_out : l₁ ≡ encode (card_out e (decode l)) → Effected 3 l e l₁ true
  unfolding effect card_out done
  taken_out w = record { accepted = a; image = w; programs = refl; still = λ h. absurd (true≢false h); told = refl }

  pub powered_up : l₁ ≡ encode (power_up e (decode l)) → Effected 4 l e l₁ true
  unfolding effect power_up card_in card_out done
  powered_up w = record {
    accepted = a;
    image = w;
    programs = power_up_programs e (decode l);
    still = λ h. absurd (true≢false h);
    told = refl;
  }

  -- with no mark to fall there is nothing to settle
  pub put_in_only : Granted 2 l e → {b : Bool} → b ≡ any marked_operator (decode l).trust.certificates → not b ≡ true
      → {x : Answer} → x ≡ answer_done 0 0 → l₁ ≡ encode (with_card e.second (decode l)) → Tried l (with_kind 2 e) (Ok x) l₁
  unfolding done
  put_in_only d q h t w =
      let ok = accepted_phone l a in
      let z = on_code (code_of (decode l) (with_kind 2 e)) tt {r = Ok tt} d refl in
      let unmarked : T (not (any marked_operator (decode l).trust.certificates)) = subst T (sym h ∙ ap not q) tt in
      tried_still z (card_still (decode l) ok e z unmarked) t (w ∙ ap encode (sym (card_idle (decode l) ok e unmarked)))
