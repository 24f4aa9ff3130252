-- The clock along a timeline: a clock event that is put in is done, and behind a record the clock is its second. Assumes nothing.
use Prim.Native.Nat.{ℕ, suc, ◌≤◌}
use mathlib.Core.{Bool.{Bool, true, false, cond, not, ◌&&◌}, List.{List, [], ◌∷◌, ◌++◌}, Logic.◌≢◌, Path.{◌≡◌, refl, sym, ap, subst, ◌∙◌}}
use native.Mathlib.Omega.{arith}
use borrow.Author.Tests.{lt-leb}
use lib.Dec.{T, eqb, eqb→eq, leb, ltb, leb→le, nltb→le}
use Rattle.octets.specs.Octets.{be8}
use Rattle.records.specs.{Layout.event_bytes, Phone.{Phone, decode}}
use Rattle.records.proofs.Records.{length_event, event_read_bytes}
use Rattle.rules.specs.{Computing.computing, ImageRules.accepted, Codes.{code_of, code}, Effects.changed, Step.{step, run}}
use Rattle.laws.proofs.Tests.{and_l, and_r, by_test, neqb→ne}
use Rattle.keeping.proofs.Bytes.{code_whole, step_refused, accepted_run}
use Rattle.demands.proofs.Theorems.{event_phone, event_frame}
use Rattle.timeline.specs.{Timeline.{Timed, timed_fits, in_time, clock_event, record_events, unrolled, clock_of}, Running.{in_turn, met, met_by_event}}

-- ---- a clock event

abbrev clock_bytes : ℕ → List ℕ
clock_bytes s = event_bytes (clock_event s)

clock_allowed : (p : Phone) (s : ℕ) → p.trust.seen.clock ≤ s → code_of p (clock_event s) ≡ 0
unfolding computing
clock_allowed p s h = rw (lt-leb (suc s) p.trust.seen.clock (omega arith))

clock_changed : (p : Phone) (s : ℕ) → (changed (clock_event s) p).trust.seen.clock ≡ s
unfolding computing
clock_changed p s = refl

module _ (l : List ℕ) (a : accepted l ≡ true) where
  clock_done : (s : ℕ) → clock_of l ≤ s → code l (clock_bytes s) ≡ 0
  clock_done s h =
      code_whole l (clock_bytes s) a (length_event (clock_event s))
      ∙ ap (code_of (decode l)) (event_read_bytes (clock_event s))
      ∙ clock_allowed (decode l) s h

  clock_set : (s : ℕ) → clock_of l ≤ s → clock_of (step l (clock_bytes s)).image ≡ s
  clock_set s h =
      ap (λ p. p.trust.seen.clock) (event_phone l (clock_bytes s) (clock_done s h))
      ∙ ap (λ e. (changed e (decode l)).trust.seen.clock) (event_read_bytes (clock_event s))
      ∙ clock_changed (decode l) s

-- ---- any other

clock_kept : (l v : List ℕ) → be8 v 0 ≢ 1 → clock_of (step l v).image ≡ clock_of l
clock_kept l v k =
    by_test (eqb (code l v) 0)
    (λ t. (event_frame l v (eqb→eq (code l v) 0 t)).clock k)
    (λ t. ap (λ o. clock_of o.image) (step_refused l v (neqb→ne (code l v) 0 t)))

-- ---- along a timeline

run_append : (xs ys : List (List ℕ)) (l : List ℕ) → run l (xs ++ ys) ≡ run (run l xs) ys
unfolding run
run_append [] ys l = refl
run_append (v ∷ xs) ys l = run_append xs ys (step l v).image

-- what is asked of a record
not_back : (c : ℕ) (x : Timed) → T (timed_fits c x) → c ≤ x.second
unfolding timed_fits
not_back c x t =
    leb→le c x.second (and_l (leb c x.second) (eqb x.blank 0) (and_l (leb c x.second && eqb x.blank 0) (not (eqb (be8 x.event 0) 1)) t))

not_clock : (c : ℕ) (x : Timed) → T (timed_fits c x) → be8 x.event 0 ≢ 1
unfolding timed_fits
not_clock c x t = neqb→ne (be8 x.event 0) 1 (and_r (leb c x.second && eqb x.blank 0) (not (eqb (be8 x.event 0) 1)) t)

-- an image and a record that may be run on it
pub record Fits (l : List ℕ) (x : Timed) : Type 0 where
  pub accepted : accepted l ≡ true
  pub record_fits : T (timed_fits (clock_of l) x)

-- the clock is the record's second when its event is met
pub clock_at_event : (l : List ℕ) (x : Timed) → Fits l x → clock_of (met_by_event l x) ≡ x.second
unfolding run
clock_at_event l x f = go (ltb (clock_of l) x.second) (λ t. t) (λ t. t)
  where
    go : (b : Bool) → (T b → T (ltb (clock_of l) x.second)) → (T (not b) → T (not (ltb (clock_of l) x.second)))
        → clock_of (run l (cond b (clock_bytes x.second ∷ []) [])) ≡ x.second
    go true t n = clock_set l f.accepted x.second (not_back (clock_of l) x f.record_fits)
    go false t n =
        let h : clock_of l ≤ x.second = not_back (clock_of l) x f.record_fits in
        let k : x.second ≤ clock_of l = nltb→le (clock_of l) x.second (n tt) in
        omega arith

-- and behind it still
clock_behind : (l : List ℕ) (x : Timed) → Fits l x → clock_of (run l (record_events (clock_of l) x)) ≡ x.second
unfolding run
clock_behind l x f =
    ap clock_of (event_last (ltb (clock_of l) x.second))
    ∙ clock_kept (met_by_event l x) x.event (not_clock (clock_of l) x f.record_fits)
    ∙ clock_at_event l x f
  where
    event_last : (b : Bool)
        → run l (cond b (clock_bytes x.second ∷ x.event ∷ []) (x.event ∷ []))
        ≡ (step (run l (cond b (clock_bytes x.second ∷ []) [])) x.event).image
    event_last true = refl
    event_last false = refl

-- the image that a record meets
accepted_behind : (l : List ℕ) (c : ℕ) (x : Timed) → accepted l ≡ true → accepted (run l (record_events c x)) ≡ true
accepted_behind l c x a = accepted_run (record_events c x) l a

fits_first : (l : List ℕ) (x : Timed) (rest : List Timed) → accepted l ≡ true → T (in_time (clock_of l) (x ∷ rest)) → Fits l x
unfolding in_time
fits_first l x rest a t = record { accepted = a; record_fits = and_l (timed_fits (clock_of l) x) (in_time x.second rest) t }

fits_rest : (l : List ℕ) (x : Timed) (rest : List Timed) → accepted l ≡ true → T (in_time (clock_of l) (x ∷ rest))
    → T (in_time (clock_of (run l (record_events (clock_of l) x))) rest)
unfolding in_time
fits_rest l x rest a t =
    subst (λ c. T (in_time c rest)) (sym (clock_behind l x (fits_first l x rest a t)))
    (and_r (timed_fits (clock_of l) x) (in_time x.second rest) t)

-- the events that are run in turn are those that are put one after the other
pub in_turn_unrolled : (l : List ℕ) (xs : List Timed) → accepted l ≡ true → T (in_time (clock_of l) xs) → in_turn l xs ≡ unrolled (clock_of l) xs
unfolding in_turn unrolled
in_turn_unrolled l [] a t = refl
in_turn_unrolled l (x ∷ xs) a t =
    let vs = record_events (clock_of l) x in
    let here = fits_first l x xs a t in
    ap (λ ws. vs ++ ws)
    (in_turn_unrolled (run l vs) xs (accepted_behind l (clock_of l) x a) (fits_rest l x xs a t)
    ∙ ap (λ c. unrolled c xs) (clock_behind l x here))

-- what a record meets: an accepted image that it fits
pub meets : (l : List ℕ) (before : List Timed) (x : Timed) (rest : List Timed) → accepted l ≡ true → T (in_time (clock_of l) (before ++ (x ∷ rest)))
    → Fits (met l before) x
unfolding unrolled run
meets l [] x rest a t = fits_first l x rest a t
meets l (y ∷ before) x rest a t =
    let vs = record_events (clock_of l) y in
    let later = before ++ (x ∷ rest) in
    let here = fits_first l y later a t in
    let same : met (run l vs) before ≡ met l (y ∷ before) =
    ap (λ c. run (run l vs) (unrolled c before)) (clock_behind l y here) ∙ sym (run_append vs (unrolled y.second before) l) in
    subst (λ m. Fits m x) same (meets (run l vs) before x rest (accepted_behind l (clock_of l) y a) (fits_rest l y later a t))

-- what that is worth
pub never_back : (l : List ℕ) (x : Timed) → Fits l x → clock_of l ≤ x.second
never_back l x f = not_back (clock_of l) x f.record_fits

pub put_in_done : (l : List ℕ) (x : Timed) → Fits l x → code l (clock_bytes x.second) ≡ 0
put_in_done l x f = clock_done l f.accepted x.second (never_back l x f)
