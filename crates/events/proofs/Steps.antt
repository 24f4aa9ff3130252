-- From the handlers to one step: the kind and the actor of an event, its length, and the image it meets. Assumes nothing.
use Prim.Native.Nat.{ℕ, zero, suc, ◌≤◌, ◌<◌}
use mathlib.Core.{Bool.{Bool, true, false, cond, not, ◌&&◌}, List.{List}, Logic.◌≢◌, Path.{◌≡◌, refl, sym, ap, ◌∙◌, subst}}
use native.Mathlib.Omega.{arith}
use borrow.Author.Tests.{ne_eqb, lt-leb}
use lib.{Dec.{eqb, leb}, ListN.{length, get_or, get_or-eq_default}}
use Rattle.octets.proofs.ByteLaws.{Bytes}
use Rattle.records.specs.{Sizes.event_size, Layout.event_read, Phone.{Phone, decode, encode}, declared.Event.Event}
use Rattle.records.proofs.RoundTrip.{frame}
use Rattle.rules.specs.{declared.Answer.Answer, Words.first, ImageRules.accepted}
use Rattle.rules.specs.{Forms.{with_kind, forms, no_form, malformed}, Codes.{code_of, code}, Effects.changed}
use Rattle.rules.specs.{Step.{Outcome, refused, opened, refusal, done, step}, AcceptedImage.AcceptedImage}
use Rattle.laws.proofs.{Accepts.accepted_out, Promise.accepted_image}
use Rattle.keeping.proofs.Bytes.{code_whole, step_refused, accepted_step, refusal_cases, never_one}
use Rattle.events.specs.{Stepped.{Stepped, SteppedAccepted}, Telling.answer_of}
use Rattle.std.specs.Prelude.{Result, Ok, Err}
use Rattle.handling.specs.{declared.Refusal.Refusal, Handled.{told, left, Handled, Tried}}
use Rattle.handling.proofs.{PlanLaws.plan_refused, Handles.{tried_refused, handled_ok, handled_err}}

-- ---- the kind and the actor

-- what is told of what a handler answered is what it promised
tried_told : {l : List ℕ} {e : Event} {l' : List ℕ} (r : Result Answer Refusal) → Tried l e r l' → {x : Answer} → x ≡ answer_of r → Handled l e x l'
tried_told {l} {e} {l'} (Ok y) t q = subst (λ x. Handled l e x l') (sym q) (handled_ok t refl)
tried_told (Err why) t q = handled_err t refl q

-- e is an event that is read after its actor and its kind: the actor is one that there is, and it is tried as one of its own kind
module _ (v : List ℕ) {e : Event} (q : e ≡ event_read v 0) where
  pub low_actor : {n : ℕ} → n ≡ (event_read v 0).actor → n ≤ 4 → e.actor < 5
  low_actor a h = let b = ap (λ e. e.actor) q in omega arith

  pub read_of_kind : {l : List ℕ} (k : ℕ) {n : ℕ} {r : Answer} {l' : List ℕ} → n ≡ (event_read v 0).kind → n ≡ k
      → Handled l (with_kind k e) r l' → Handled l (event_read v 0) r l'
  read_of_kind {l} k {n} {r} {l'} i h d =
      let own : with_kind k e ≡ event_read v 0 = ap (λ n. with_kind n e) (sym (ap (λ e. e.kind) q ∙ sym i ∙ h)) ∙ q in
      subst (λ e. Handled l e r l') own d

  -- and x is what is told of what its handler answered
  pub tried_of_kind : {l : List ℕ} (k : ℕ) {n : ℕ} {x : Answer} {r : Result Answer Refusal} {l' : List ℕ} → x ≡ answer_of r → n ≡ (event_read v 0).kind → n ≡ k
      → Tried l (with_kind k e) r l' → Handled l (event_read v 0) x l'
  tried_of_kind k {r = r} t i h d = read_of_kind k i h (tried_told r d t)

-- no kind but 1 to 16 has a form
no_kind : (k : ℕ) → (k ≢ 0 → 16 < k) → get_or forms k no_form ≡ no_form
no_kind zero h = refl
no_kind (suc k) h = get_or-eq_default forms no_form {n = suc k} (let above = h (λ z. omega arith) in omega arith)

no_form_code : (p : Phone) (e : Event) → get_or forms e.kind no_form ≡ no_form → 2 ≡ code_of p e
unfolding code_of first malformed no_form
no_form_code p e h = let m : malformed p e ≡ true = ap (λ x. not (leb e.actor 4 && x)) (ap (λ f. f p e) h) ∙ never (leb e.actor 4) in rw m
  where
    never : (b : Bool) → not (b && false) ≡ true
    never true = refl
    never false = refl

-- n is the kind that was read
module _ {l : List ℕ} {e : Event} {x : Answer} (t : x ≡ refused 2) where
  malformed_handled : 2 ≡ code_of (decode l) e → Handled l e x l
  malformed_handled q =
      handled_err (tried_refused (tt {0}) {r = Err Refusal.Malformed} (plan_refused (code_of (decode l) e) (tt {0}) (omega arith) q) refl) refl t

  pub no_such_kind : {n : ℕ} → n ≡ e.kind → (n ≢ 0 → 16 < n) → Handled l e x l
  no_such_kind {n} i h = malformed_handled (no_form_code (decode l) e (ap (λ n. get_or forms n no_form) (sym i) ∙ no_kind n h))

  pub no_such_actor : 4 < e.actor → Handled l e x l
  unfolding code_of first malformed
  no_such_actor h = malformed_handled (rw (lt-leb e.actor 4 h))

-- ---- the length, and the image

refusal_other : (l : List ℕ) (c : ℕ) → c ≢ 1 → refusal l c ≡ refused c
refusal_other l c n = refusal_cases (λ a. a ≡ refused c) l c (λ e. absurd (n e)) (λ n. refl)

still_accepted : (l : List ℕ) → Bytes l → accepted l ≡ true → AcceptedImage l
still_accepted l b h = accepted_image l (frame l b (accepted_out l h).0) h

module _ (l v : List ℕ) where
  whole_stepped : accepted l ≡ true → length v ≡ event_size → step l v ≡ record { answer = told (decode l) (event_read v 0); image = left l (event_read v 0) }
  unfolding step
  whole_stepped ok n = ap by_code (code_whole l v ok n) ∙ each (eqb (code_of (decode l) e) 0) (refusal l (code_of (decode l) e))
      ∙ ap (λ a. record { answer = cond (eqb (code_of (decode l) e) 0) (done e q) a; image = left l e }) other
    where
      e : Event
      e = event_read v 0

      q : Phone
      q = changed e (decode l)

      by_code : ℕ → Outcome
      by_code c = cond (eqb c 0) (record { answer = done e q; image = encode q }) (record { answer = refusal l c; image = l })

      each : (b : Bool) (a : Answer) → ◌≡◌ {A = Outcome} (cond b (record { answer = done e q; image = encode q }) (record { answer = a; image = l }))
          (record { answer = cond b (done e q) a; image = cond b (encode q) l })
      each true a = refl
      each false a = refl

      -- code 1 is the image's alone
      other : refusal l (code_of (decode l) e) ≡ refused (code_of (decode l) e)
      other = refusal_other l (code_of (decode l) e) (never_one (decode l) e)

  refused_stepped : (n : ℕ) → n ≡ code l v → n ≢ 0 → (x : Answer) → x ≡ refusal l n → Stepped l v x l
  refused_stepped n c h x q =
      let s = step_refused l v (λ z. h (c ∙ z)) in
      record { answer = q ∙ ap (refusal l) c ∙ sym (ap (λ o. o.answer) s); image = sym (ap (λ o. o.image) s) }

  -- an image that is not accepted
  pub broken_stepped : accepted l ≡ false → (x : Answer) → x ≡ opened l → Stepped l v x l
  unfolding code first refusal opened
  broken_stepped h x q = refused_stepped 1 (rw h) (λ z. omega arith) x (q ∙ rw h)

  module _ (a : AcceptedImage l) where
    -- an event of another length
    pub short_stepped : length v ≢ event_size → (x : Answer) → x ≡ refused 2 → SteppedAccepted l v x l
    unfolding code first
    short_stepped h x q =
        record {
          stepped = refused_stepped 2 (rw (a.accepted, ne_eqb (length v) event_size h)) (λ z. omega arith) x (q ∙ sym (refusal_other l 2 (λ z. omega arith)));
          accepted = a;
        }

    -- an event that was handled
    pub handled_stepped : length v ≡ event_size → (r : Answer) (l' : List ℕ) → Bytes l' → Handled l (event_read v 0) r l' → SteppedAccepted l v r l'
    handled_stepped n r l' b h =
        let s = whole_stepped a.accepted n in
        let k : l' ≡ (step l v).image = h.image ∙ sym (ap (λ o. o.image) s) in
        record {
          stepped = record { answer = h.answer ∙ sym (ap (λ o. o.answer) s); image = k };
          accepted = still_accepted l' b (subst (λ m. accepted m ≡ true) (sym k) (accepted_step l v a.accepted));
        }
