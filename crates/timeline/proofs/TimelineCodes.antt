-- The code of a timeline, and the events that it stands for. Assumes nothing.
use Prim.Native.Nat.{ℕ, ◌≤◌}
use mathlib.Core.{Bool.{Bool, true, false, not, true≢false, false≢true}, List.{List, [], ◌∷◌, ◌++◌}, Logic.{◌≢◌, ◌↔◌}, Path.{◌≡◌, refl, sym, ap, subst, ◌∙◌}}
use native.Mathlib.Omega.{arith}
use lib.Dec.{T}
use Rattle.rules.specs.{Words.{◌⇒◌, first}, ImageRules.accepted, Step.{run, answers}}
use Rattle.laws.proofs.Tests.{and_r}
use Rattle.timeline.specs.Timeline.{Timed, timed, timeline_framed, in_time, timeline_fits, clock_of, timeline_code, timeline_events}
use Rattle.timeline.specs.Running.{in_turn, met}
use Rattle.timeline.proofs.{UnrollsTold.{events_none, events_all}, Clock.{Fits, in_turn_unrolled, meets}}

-- the code by whether the image is accepted and whether the timeline fits
abbrev by_tests : Bool → Bool → ℕ
by_tests a f = first ((not a ⇒ 1) ∷ (not f ⇒ 19) ∷ [])

zero_is : (a f : Bool) → (by_tests a f ≡ 0) ↔ ((a ≡ true) × (f ≡ true))
unfolding first
zero_is true true = (λ e. (refl, refl), λ e. refl)
zero_is true false = (λ e. absurd (omega (arith, e)), λ e. absurd (false≢true e.1))
zero_is false f = (λ e. absurd (omega (arith, e)), λ e. absurd (false≢true e.0))

one_is : (a f : Bool) → (by_tests a f ≡ 1) ↔ (a ≡ false)
unfolding first
one_is true true = (λ e. absurd (omega (arith, e)), λ e. absurd (true≢false e))
one_is true false = (λ e. absurd (omega (arith, e)), λ e. absurd (true≢false e))
one_is false f = (λ e. refl, λ e. refl)

nineteen_is : (a f : Bool) → (by_tests a f ≡ 19) ↔ ((a ≡ true) × (f ≡ false))
unfolding first
nineteen_is true true = (λ e. absurd (omega (arith, e)), λ e. absurd (true≢false e.1))
nineteen_is true false = (λ e. (refl, refl), λ e. refl)
nineteen_is false f = (λ e. absurd (omega (arith, e)), λ e. absurd (false≢true e.0))

none_above : (a f : Bool) → by_tests a f ≤ 19
unfolding first
none_above true true = omega arith
none_above true false = omega arith
none_above false f = omega arith

module _ (l t : List ℕ) where
  pub zero_exact : (timeline_code l t ≡ 0) ↔ ((accepted l ≡ true) × (timeline_fits (clock_of l) t ≡ true))
  unfolding timeline_code
  zero_exact = zero_is (accepted l) (timeline_fits (clock_of l) t)

  pub one_exact : (timeline_code l t ≡ 1) ↔ (accepted l ≡ false)
  unfolding timeline_code
  one_exact = one_is (accepted l) (timeline_fits (clock_of l) t)

  pub nineteen_exact : (timeline_code l t ≡ 19) ↔ ((accepted l ≡ true) × (timeline_fits (clock_of l) t ≡ false))
  unfolding timeline_code
  nineteen_exact = nineteen_is (accepted l) (timeline_fits (clock_of l) t)

  pub code_most : timeline_code l t ≤ 19
  unfolding timeline_code
  code_most = none_above (accepted l) (timeline_fits (clock_of l) t)

  pub nothing_run : timeline_code l t ≢ 0 → (run l (timeline_events l t) ≡ l) × (answers l (timeline_events l t) ≡ [])
  unfolding run answers
  nothing_run h = (ap (run l) (events_none l t h), ap (answers l) (events_none l t h))

  module _ (h : timeline_code l t ≡ 0) where
    image_accepted : accepted l ≡ true
    image_accepted = (zero_exact.0 h).0

    seconds_fit : T (in_time (clock_of l) (timed t))
    seconds_fit = and_r (timeline_framed t) (in_time (clock_of l) (timed t)) (subst T (sym (zero_exact.0 h).1) tt)

    pub in_turn_events : in_turn l (timed t) ≡ timeline_events l t
    in_turn_events = in_turn_unrolled l (timed t) image_accepted seconds_fit ∙ sym (events_all l t h)

    pub meets_record : (before : List Timed) (x : Timed) (rest : List Timed) → timed t ≡ before ++ (x ∷ rest) → Fits (met l before) x
    meets_record before x rest s = meets l before x rest image_accepted (subst (λ xs. T (in_time (clock_of l) xs)) s seconds_fit)
