-- How many events a timeline stands for, that each of them is whole, and how many bytes they take. Assumes nothing.
use Prim.Native.Nat.{ℕ, zero, suc, ◌*◌, ◌≤◌, ◌<◌}
use mathlib.Core.{Bool.{Bool, true, false, cond, false≢true}, List.{List, [], ◌∷◌, ◌++◌}, Path.{◌≡◌, refl, sym, ap, subst, ◌∙◌}}
use native.Mathlib.Omega.{arith}
use lib.{Dec.{eqb, eqb→eq}, ListN.{length, take, length-append, length-take}}
use Rattle.records.specs.{Sizes.event_size, Phone.{joined, tabulate}}
use Rattle.records.proofs.Joined.{length_tabulate}
use Rattle.laws.proofs.Tests.{by_test, neqb→ne}
use Rattle.std.specs.Prelude.{Result, Ok, Err, is_err}
use Rattle.rules.specs.{declared.Answer.Answer, Step.opened}
use Rattle.timeline.specs.Timeline.{timeline_framed, timed_count, Timed, timed_at, timed, record_events, unrolled, clock_of, timeline_code}
use Rattle.timeline.specs.Timeline.{timeline_events, most_events}
use Rattle.timeline.specs.Unrolls.{room, with_code, unroll, Unrolls}
use Rattle.timeline.proofs.{Framed.{framed_few, event_whole, fits_framed}, EventsPlaced.{Whole, clock_whole, clock_few}}
use Rattle.timeline.proofs.{UnrollsTold.{events_none, events_all}, TimelineCodes.zero_exact}

-- ---- whole events

-- some and then others
whole_append : (vs ws : List (List ℕ)) → Whole vs → Whole ws → Whole (vs ++ ws)
whole_append [] ws f g = g
whole_append (v ∷ vs) ws f g = (f.0, whole_append vs ws f.1 g)

-- the first of them
pub whole_take : (n : ℕ) (vs : List (List ℕ)) → Whole vs → Whole (take n vs)
whole_take zero vs f = tt
whole_take (suc n) [] f = tt
whole_take (suc n) (v ∷ vs) f = (f.0, whole_take n vs f.1)

-- they take 24 bytes each
pub length_whole : (vs : List (List ℕ)) → Whole vs → length (joined (λ v. v) vs) ≡ length vs * event_size
length_whole [] f = refl
length_whole (v ∷ vs) f =
    let here = f.0 in
    let rest = length_whole vs f.1 in
    length-append v (joined (λ v. v) vs) ∙ omega arith

module _ (b : List ℕ) (vs : List (List ℕ)) (f : Whole vs) where
  -- those that there is room for end within the buffer
  pub placed_within : length (joined (λ v. v) (take (room b) vs)) ≤ length b
  placed_within =
      let size = length_whole (take (room b) vs) (whole_take (room b) vs f) in
      let few = length-take (room b) vs in
      omega arith

-- ---- those of a timeline

-- records stand for at most two events each
unrolled_few : (xs : List Timed) (c : ℕ) → length (unrolled c xs) ≤ 2 * length xs
unfolding unrolled
unrolled_few [] c = omega arith
unrolled_few (x ∷ xs) c =
    let two = clock_few c x in
    let rest = unrolled_few xs x.second in
    let both = length-append (record_events c x) (unrolled x.second xs) in
    omega arith

-- and for whole ones, where theirs are
unrolled_whole : (n : ℕ) (x : ℕ → Timed) → ((i : ℕ) → i < n → length (x i).event ≡ event_size) → (c : ℕ) → Whole (unrolled c (tabulate n x))
unfolding unrolled
unrolled_whole zero x f c = tt
unrolled_whole (suc n) x f c =
    whole_append (record_events c (x 0)) (unrolled (x 0).second (tabulate n (λ i. x (suc i)))) (clock_whole c (x 0) (f 0 (omega arith)))
    (unrolled_whole n (λ i. x (suc i)) (λ i h. f (suc i) (omega arith)) (x 0).second)

module _ (l t : List ℕ) where
  -- a timeline that is not refused has the form
  framed : timeline_code l t ≡ 0 → timeline_framed t ≡ true
  framed z = fits_framed (clock_of l) t ((zero_exact l t).0 z).1

  -- so it has at most 1,000 records
  fitting_few : timeline_code l t ≡ 0 → length (timeline_events l t) ≤ most_events
  fitting_few z =
      let few = framed_few t (framed z) in
      let records = length_tabulate (timed_count t) (timed_at t) in
      let events = unrolled_few (timed t) (clock_of l) in
      let same = ap length (events_all l t z) in
      omega arith

  -- a timeline stands for at most 2,000 events
  pub events_few : length (timeline_events l t) ≤ most_events
  events_few =
      by_test (eqb (timeline_code l t) 0)
      (λ h. fitting_few (eqb→eq (timeline_code l t) 0 h))
      (λ h. let none = ap length (events_none l t (neqb→ne (timeline_code l t) 0 h)) in omega arith)

  -- each of them whole
  fitting_whole : timeline_code l t ≡ 0 → Whole (timeline_events l t)
  fitting_whole z =
      subst Whole (sym (events_all l t z)) (unrolled_whole (timed_count t) (timed_at t) (λ i h. event_whole t i (framed z) h) (clock_of l))

  pub events_whole : Whole (timeline_events l t)
  events_whole =
      by_test (eqb (timeline_code l t) 0)
      (λ h. fitting_whole (eqb→eq (timeline_code l t) 0 h))
      (λ h. subst Whole (sym (events_none l t (neqb→ne (timeline_code l t) 0 h))) tt)

-- r is what is told of a timeline that is not refused: n events
module _ (l t b : List ℕ) {r : Result ℕ Answer} {b' : List ℕ} (u : Unrolls l t b r b') {n : ℕ} (e : r ≡ Ok n) where
  -- they are those that it stands for
  pub counted : n ≡ length (timeline_events l t)
  unfolding unroll
  counted = each (eqb (timeline_code l t) 0) (sym e ∙ u.answer)
    where
      count : Result ℕ Answer → ℕ
      count (Ok n) = n
      count (Err a) = 0

      each : (c : Bool) → Ok n ≡ cond c (Ok (length (timeline_events l t))) (Err (with_code (timeline_code l t) (opened l))) → n ≡ length (timeline_events l t)
      each true e = ap count e
      each false e = absurd (false≢true (ap is_err e))

  -- no more than 2,000
  pub count_few : n ≤ most_events
  count_few = let few = events_few l t in omega (arith, counted)

  -- and 48,000 bytes have room for all of them
  pub count_within : n * event_size ≤ most_events * event_size
  count_within = let few = count_few in omega arith
