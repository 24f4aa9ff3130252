-- Demand 3: withdrawing grants nothing that was refused, giving refuses nothing that was granted; both also with every executable verified. Assumes nothing.
use Prim.Native.Nat.{ℕ}
use mathlib.Core.{Bool.{Bool, true, not, ◌||◌}, List.{List, [], ◌∷◌, map}, Logic.{◌≢◌, ◌⊎◌, inl, inr}, Path.{◌≡◌, subst, sym, ap, ◌∙◌}}
use borrow.Author.Tests.{eq-eqb, ne_eqb}
use lib.{Dec.{T, eqb, eqb→eq}, ListN.length}
use Rattle.records.specs.{Sizes.event_size, Layout.event_bytes, Phone.{Phone, decode, encode}, declared.Event.Event}
use Rattle.records.proofs.Records.{length_event, event_read_bytes}
use Rattle.rules.specs.{ImageRules.accepted, Codes.code_of, Step.{step, run}, Demands.{request_event, verify_event, grants, withdrawing, giving}}
use Rattle.rules.specs.After.{after, after_all}
use Rattle.laws.proofs.{Tests.{neqb→ne, or_cases, by_test}, Accepted.Accepted, Accepts.accepted_out}
use Rattle.keeping.specs.OneEvent.{event_of}
use Rattle.demands.specs.Runs.{is_request, EachInTurn, WithdrawingRun, GivingRun, verified as image-verified}
use Rattle.keeping.proofs.{AcceptedKept.{accepted_after, accepted_after_all}, Order.{Under, under_refl, under_trans}}
use Rattle.keeping.proofs.{Done.refused_still, Settle.request_still, Verified.{verified, accepted_verified, verified_twice, under_verified}}
use Rattle.keeping.proofs.Bytes.{code_whole, accepted_step, decode_step, step_other, accepted_run, run_written, whole, decode_run, whole_bytes}
use Rattle.demands.proofs.{Grant.{granted, no_more}, Withdrawing.withdrawing_under, Giving.giving_over}

-- an event that passes the test at the phone that it meets, or is a request or refused there
abbrev met : (Phone → Event → Bool) → Phone → Event → Bool
met f p e = f p e || (is_request e || not (eqb (code_of p e) 0))

-- every event of a run does
abbrev EachMet : (Phone → Event → Bool) → List Event → Phone → Type 0
EachMet f [] p = Unit {0}
EachMet f (e ∷ es) p = T (met f p e) × EachMet f es (after e p)

-- ---- one event, and a run

-- what passes the test has the property; a request and what is refused leave the phone as it was
by_meeting : (P : Phone → Type 0) (f : Phone → Event → Bool) (p : Phone) → Accepted p → (e : Event) → T (met f p e)
    → (T (f p e) → P (after e p)) → P p → P (after e p)
by_meeting P f p ok e h passes stays = go (or_cases (f p e) (is_request e || not (eqb (code_of p e) 0)) h)
  where
    still : T (is_request e) ⊎ T (not (eqb (code_of p e) 0)) → after e p ≡ p
    still (inl r) = request_still p ok e (eqb→eq e.kind 15 r)
    still (inr n) = refused_still p e n

    go : T (f p e) ⊎ T (is_request e || not (eqb (code_of p e) 0)) → P (after e p)
    go (inl t) = passes t
    go (inr o) = subst P (sym (still (or_cases (is_request e) (not (eqb (code_of p e) 0)) o))) stays

one_under : (p : Phone) → Accepted p → (e : Event) → T (met withdrawing p e) → Under (after e p) p
one_under p ok e h = by_meeting (λ q. Under q p) withdrawing p ok e h (withdrawing_under p e) (under_refl p)

one_over : (p : Phone) → Accepted p → (e : Event) → T (met giving p e) → Under p (after e p)
one_over p ok e h = by_meeting (Under p) giving p ok e h (giving_over p ok e) (under_refl p)

run_under : (es : List Event) (p : Phone) → Accepted p → EachMet withdrawing es p → Under (after_all es p) p
unfolding after_all
run_under [] p ok w = under_refl p
run_under (e ∷ es) p ok w =
    under_trans (after_all es (after e p)) (after e p) p (run_under es (after e p) (accepted_after p e ok) w.1) (one_under p ok e w.0)

run_over : (es : List Event) (p : Phone) → Accepted p → EachMet giving es p → Under p (after_all es p)
unfolding after_all
run_over [] p ok g = under_refl p
run_over (e ∷ es) p ok g =
    under_trans p (after e p) (after_all es (after e p)) (one_over p ok e g.0) (run_over es (after e p) (accepted_after p e ok) g.1)

-- ---- the demand, of phones

module _ (p : Phone) (ok : Accepted p) (es : List Event) where
  reached : Accepted (after_all es p)
  reached = accepted_after_all es p ok

  fewer_granted : EachMet withdrawing es p → (n a : ℕ) → T (granted (after_all es p) n a) → T (granted p n a)
  fewer_granted w = no_more (after_all es p) p (run_under es p ok w) ok

  more_granted : EachMet giving es p → (n a : ℕ) → T (granted p n a) → T (granted (after_all es p) n a)
  more_granted g = no_more p (after_all es p) (run_over es p ok g) reached

  fewer_granted_verified : EachMet withdrawing es p → (n a : ℕ) → T (granted (verified (after_all es p)) n a) → T (granted (verified p) n a)
  fewer_granted_verified w =
      no_more (verified (after_all es p)) (verified p) (under_verified (after_all es p) p reached ok (run_under es p ok w)) (accepted_verified p ok)

  more_granted_verified : EachMet giving es p → (n a : ℕ) → T (granted (verified p) n a) → T (granted (verified (after_all es p)) n a)
  more_granted_verified g =
      no_more (verified p) (verified (after_all es p)) (under_verified p (after_all es p) ok reached (run_over es p ok g))
      (accepted_verified (after_all es p) reached)

-- ---- the demand, of bytes

pub grants_is : (l : List ℕ) → accepted l ≡ true → (n a : ℕ) → grants l n a ≡ granted (decode l) n a
unfolding grants
grants_is l ok n a =
    let r = request_event n a in
    ap (λ c. eqb c 0) (code_whole l (event_bytes r) ok (length_event r) ∙ ap (code_of (decode l)) (event_read_bytes r))

each_met : (f : Phone → Event → Bool) (vs : List (List ℕ)) (l : List ℕ) → accepted l ≡ true → EachInTurn f l vs → EachMet f (whole vs) (decode l)
unfolding whole
each_met f [] l ok h = tt
each_met f (v ∷ vs) l ok h = go (each_met f vs (step l v).image (accepted_step l v ok) h.1)
  where
    counted : length v ≡ event_size → EachMet f (whole vs) (decode (step l v).image) → EachMet f (whole (v ∷ vs)) (decode l)
    counted n r =
        rw (eq-eqb (length v) event_size n) (
          subst (λ c. T (f (decode l) (event_of v) || (is_request (event_of v) || not (eqb c 0)))) (code_whole l v ok n) h.0,
          subst (EachMet f (whole vs)) (decode_step l v ok n) r,
        )

    passed : length v ≢ event_size → EachMet f (whole vs) (decode (step l v).image) → EachMet f (whole (v ∷ vs)) (decode l)
    passed n r = rw (ne_eqb (length v) event_size n) (subst (λ m. EachMet f (whole vs) (decode m)) (step_other l v n) r)

    go : EachMet f (whole vs) (decode (step l v).image) → EachMet f (whole (v ∷ vs)) (decode l)
    go r = by_test (eqb (length v) event_size) (λ t. counted (eqb→eq (length v) event_size t) r) (λ t. passed (neqb→ne (length v) event_size t) r)

module _ (l : List ℕ) (ok : accepted l ≡ true) where
  is_accepted : Accepted (decode l)
  is_accepted = (accepted_out l ok).1

  decode_verified : decode (image-verified l) ≡ verified (decode l)
  unfolding image-verified verified
  decode_verified = decode_run _ l ok ∙ ap (λ es. after_all es (decode l)) (whole_bytes (λ x. verify_event x.id) (decode l).executables)

  grants_verified : (n a : ℕ) → grants (image-verified l) n a ≡ granted (verified (decode l)) n a
  unfolding image-verified
  grants_verified n a = grants_is (image-verified l) (accepted_run _ l ok) n a ∙ ap (λ p. granted p n a) decode_verified

  then_accepted : accepted (image-verified l) ≡ true
  unfolding image-verified
  then_accepted = accepted_run _ l ok

pub verified_again : (l : List ℕ) → accepted l ≡ true → image-verified (image-verified l) ≡ image-verified l
unfolding image-verified
verified_again l ok = go (run_written (verifies l) l)
  where
    verifies : List ℕ → List (List ℕ)
    verifies m = map (λ x. event_bytes (verify_event x.id)) (decode m).executables

    once : List ℕ
    once = run l (verifies l)

    again : List ℕ
    again = run once (verifies once)

    same : decode again ≡ decode once
    same =
        decode_verified once (then_accepted l ok)
        ∙ ap verified (decode_verified l ok)
        ∙ verified_twice (decode l) (is_accepted l ok)
        ∙ sym (decode_verified l ok)

    twice : once ≡ encode (decode once) → (again ≡ once) ⊎ (again ≡ encode (decode again)) → again ≡ once
    twice w (inl s) = s
    twice w (inr a) = a ∙ ap encode same ∙ sym w

    go : (once ≡ l) ⊎ (once ≡ encode (decode once)) → again ≡ once
    go (inl s) = ap (λ m. run m (verifies m)) s
    go (inr w) = twice w (run_written (verifies once) once)

module _ (l : List ℕ) (ok : accepted l ≡ true) (vs : List (List ℕ)) where
  then : accepted (run l vs) ≡ true
  then = accepted_run vs l ok

  pub withdrawing_grants_nothing : WithdrawingRun l vs → (n a : ℕ) → T (grants (run l vs) n a) → T (grants l n a)
  withdrawing_grants_nothing w n a =
      rw (grants_is l ok n a, grants_is (run l vs) then n a, decode_run vs l ok)
      (fewer_granted (decode l) (is_accepted l ok) (whole vs) (each_met withdrawing vs l ok w) n a)

  pub giving_refuses_nothing : GivingRun l vs → (n a : ℕ) → T (grants l n a) → T (grants (run l vs) n a)
  giving_refuses_nothing g n a =
      rw (grants_is l ok n a, grants_is (run l vs) then n a, decode_run vs l ok)
      (more_granted (decode l) (is_accepted l ok) (whole vs) (each_met giving vs l ok g) n a)

  pub withdrawing_grants_nothing_verified : WithdrawingRun l vs → (n a : ℕ) → T (grants (image-verified (run l vs)) n a) → T (grants (image-verified l) n a)
  withdrawing_grants_nothing_verified w n a =
      rw (grants_verified l ok n a, grants_verified (run l vs) then n a, decode_run vs l ok)
      (fewer_granted_verified (decode l) (is_accepted l ok) (whole vs) (each_met withdrawing vs l ok w) n a)

  pub giving_refuses_nothing_verified : GivingRun l vs → (n a : ℕ) → T (grants (image-verified l) n a) → T (grants (image-verified (run l vs)) n a)
  giving_refuses_nothing_verified g n a =
      rw (grants_verified l ok n a, grants_verified (run l vs) then n a, decode_run vs l ok)
      (more_granted_verified (decode l) (is_accepted l ok) (whole vs) (each_met giving vs l ok g) n a)

-- the run starts where every application is verified
module _ (l : List ℕ) (ok : accepted l ≡ true) (vs : List (List ℕ)) where
  pub withdrawing_grants_nothing_from_verified : WithdrawingRun (image-verified l) vs → (n a : ℕ)
      → T (grants (image-verified (run (image-verified l) vs)) n a) → T (grants (image-verified l) n a)
  withdrawing_grants_nothing_from_verified w n a g =
      subst (λ m. T (grants m n a)) (verified_again l ok) (withdrawing_grants_nothing_verified (image-verified l) (then_accepted l ok) vs w n a g)

  pub giving_refuses_nothing_from_verified : GivingRun (image-verified l) vs → (n a : ℕ)
      → T (grants (image-verified l) n a) → T (grants (image-verified (run (image-verified l) vs)) n a)
  giving_refuses_nothing_from_verified w n a g =
      giving_refuses_nothing_verified (image-verified l) (then_accepted l ok) vs w n a (subst (λ m. T (grants m n a)) (sym (verified_again l ok)) g)
