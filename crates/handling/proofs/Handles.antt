-- From what a handler decided, wrote and settled to what it promises. Assumes nothing.
use Prim.Native.Nat.{ℕ, ◌<◌}
use mathlib.Core.{Bool.{Bool, cond}, List.{List, Memᴰ}, Logic.◌≢◌, Path.{◌≡◌, refl, sym, ap, ◌∙◌, subst}}
use native.Mathlib.Omega.{arith}
use borrow.Author.Tests.{eq-eqb, ne_eqb}
use lib.{Dec.T, ListN.{length, get_or}}
use Rattle.records.specs.{Phone.{Phone, decode, encode}, Frame.Framed, declared.Event.Event}
use Rattle.records.proofs.RoundTrip.{decode_encode, framed_encode}
use Rattle.rules.specs.{declared.Answer.Answer, Forms.{with_kind, forms, no_form, action_form}, Codes.code_of, Effects.{effect, settle, changed}}
use Rattle.rules.specs.{Step.{refused, answer_done, done}, AcceptedImage.AcceptedImage}
use Rattle.laws.proofs.{Tests.eq→eqb, Accepted.Accepted, Accepts.accepted_out, Promise.executable_domain}
use Rattle.keeping.proofs.{Unrefused.{unrefused, action_formed}, Shape.{shape_effect, sized_shape}}
use Rattle.chain.specs.Settling.{settle_in, DomainsKnown}
use Rattle.std.specs.{Prelude.{Result, Ok, Err}, Result.IsErrAnd}
use Rattle.handling.specs.{declared.Refusal.Refusal, RefusalCodes.{refusal_code, by_code}, Plans.plan, Handled.{Handled, Tried, Settled}}
use Rattle.handling.proofs.PlanLaws.{plan_refused, plan_on, reason_not_0, passed_on, refused_code, on_code, on_slot}

-- what is told, by whether the code is 0
abbrev told_by : List ℕ → Event → Bool → Answer
told_by l e b = cond b (done e (changed e (decode l))) (refused (code_of (decode l) e))

module _ {l : List ℕ} {e : Event} where
  -- it is refused: nothing was written
  pub tried_refused : {A : Type 0} (about : A) {r : Result A Refusal} {why : Refusal} → by_code r ≡ plan (code_of (decode l) e) about → r ≡ Err why
      → Tried l e (Err why) l
  unfolding plan
  tried_refused about {why = why} q i =
      let c = refused_code (code_of (decode l) e) about q i in
      let n = ne_eqb (code_of (decode l) e) 0 (λ z. reason_not_0 why (c ∙ z)) in
      record {
        answer = plan_refused (code_of (decode l) e) (done e (changed e (decode l))) (let z = reason_not_0 why in omega arith) c;
        image = ap (λ b. cond b (encode (changed e (decode l))) l) (sym n);
      }

  -- the same of a reason that `?` passed on
  pub tried_passed : {A : Type 0} (about : A) (why : Refusal) → Err (refusal_code why) ≡ plan (code_of (decode l) e) about
      → {r : Result Answer Refusal} → IsErrAnd r (λ x. x ≡ why) → Tried l e r l
  tried_passed about why q h = rw (passed_on h) (tried_refused about {r = Err why} q refl)

  -- code 0, and the image is that of the phone that the rules make
  pub tried_done : code_of (decode l) e ≡ 0 → {x : Answer} → x ≡ done e (changed e (decode l))
      → {l' : List ℕ} → l' ≡ encode (changed e (decode l)) → Tried l e (Ok x) l'
  tried_done z q i =
      let n = eq-eqb (code_of (decode l) e) 0 z in
      record {
        answer = plan_on (code_of (decode l) e) (done e (changed e (decode l))) q (sym z);
        image = i ∙ ap (λ b. cond b (encode (changed e (decode l))) l) (sym n);
      }

  -- the effect is written, and there is nothing to settle
  pub tried_still : code_of (decode l) e ≡ 0 → changed e (decode l) ≡ effect e (decode l) → {x : Answer} → x ≡ done e (changed e (decode l))
      → {l₁ : List ℕ} → l₁ ≡ encode (effect e (decode l)) → Tried l e (Ok x) l₁
  tried_still z s q i = tried_done z q (i ∙ ap encode (sym s))

  -- what a handler answered is told
  module _ {r : Result Answer Refusal} {l' : List ℕ} (t : Tried l e r l') where
    pub handled_ok : {x : Answer} → r ≡ Ok x → Handled l e x l'
    handled_ok i =
        let z = on_code (code_of (decode l) e) (done e (changed e (decode l))) t.answer i in
        record {
          answer = on_slot (code_of (decode l) e) (done e (changed e (decode l))) t.answer i ∙ ap (told_by l e) (sym (eq-eqb (code_of (decode l) e) 0 z));
          image = t.image;
        }

    pub handled_err : {why : Refusal} → r ≡ Err why → {x : Answer} → x ≡ refused (refusal_code why) → Handled l e x l'
    handled_err {why} i q =
        let c = refused_code (code_of (decode l) e) (done e (changed e (decode l))) t.answer i in
        let n = ne_eqb (code_of (decode l) e) 0 (λ z. reason_not_0 why (c ∙ z)) in
        record { answer = q ∙ ap refused c ∙ ap (told_by l e) (sym n); image = t.image }

-- l₁ is the image with the effect
module _ (l : List ℕ) (e : Event) {l₁ : List ℕ} (i : l₁ ≡ encode (effect e (decode l))) where
  said : decode l₁ ≡ effect e (decode l)
  said = ap decode i ∙ decode_encode (effect e (decode l))

  -- what settling asks, where the effect leaves the executables alone
  pub settle_framed : AcceptedImage l → Framed l₁
  settle_framed a = subst Framed (sym i) (framed_encode (effect e (decode l)) (sized_shape (shape_effect e (decode l)) a.framed.sized))

  pub settle_known : AcceptedImage l → (effect e (decode l)).executables ≡ (decode l).executables → DomainsKnown (decode l₁)
  settle_known a s =
      let x : (decode l₁).executables ≡ (decode l).executables = ap (λ p. p.executables) said ∙ s in
      record { known = λ y m. executable_domain y ((accepted_out l a.accepted).1.executables y (subst (Memᴰ y) x m)) }

  -- nothing to settle, and nothing but one domain
  pub said_still : changed e (decode l) ≡ effect e (decode l) → settle (decode l₁) ≡ decode l₁
  unfolding changed
  said_still h = ap settle said ∙ h ∙ sym said

  pub said_own : (d : ℕ) → settle_in d (effect e (decode l)) ≡ changed e (decode l) → settle_in d (decode l₁) ≡ settle (decode l₁)
  unfolding changed
  said_own d h = ap (settle_in d) said ∙ h ∙ ap settle (sym said)

  -- settled after it
  pub tried_settled : code_of (decode l) e ≡ 0 → answer_done 0 0 ≡ done e (changed e (decode l))
      → {x : Answer} {l₂ : List ℕ} → Settled l₁ x l₂ → Tried l e (Ok x) l₂
  unfolding changed
  tried_settled z q s = tried_done z (s.answer ∙ q) (s.image ∙ ap (λ p. encode (settle p)) said)

-- ---- what the writers ask for, and what they have made

module _ (p : Phone) (e : Event) (k : ℕ) (z : code_of p (with_kind k e) ≡ 0) where
  formed : T (get_or forms k no_form p (with_kind k e))
  formed = (unrefused p (with_kind k e) (eq→eqb (code_of p (with_kind k e)) 0 z)).formed

  -- the event that is done names an id, and an action of the table: its form says so
  pub named_id : (T (get_or forms k no_form p (with_kind k e)) → e.id ≢ 0) → 0 < e.id
  named_id f = let n = f formed in omega arith

  pub acted_id : (T (get_or forms k no_form p (with_kind k e)) → T (action_form p (with_kind k e))) → 0 < e.id
  acted_id f = let n = (action_formed p (with_kind k e) (f formed)).0 in omega arith

  pub acted_action : (T (get_or forms k no_form p (with_kind k e)) → T (action_form p (with_kind k e))) → e.second < length p.table
  acted_action f = (action_formed p (with_kind k e) (f formed)).1

pub accepted_phone : (l : List ℕ) → AcceptedImage l → Accepted (decode l)
accepted_phone l a = (accepted_out l a.accepted).1
