-- A timeline's form, taken apart: where its records stand, and what is left of them behind one. Assumes nothing.
use Prim.Native.Nat.{ℕ, ◌+◌, ◌*◌, ◌≤◌, ◌<◌}
use mathlib.Core.{Bool.{Bool, true, false, not, ◌&&◌, false≢true}, List.{List, [], ◌∷◌}, Path.{◌≡◌, refl, sym, ap, ap₂, ◌∙◌}}
use native.{Mathlib.Nat.add-zero, Mathlib.Omega.arith}
use borrow.Author.Tests.{eqb-true, leb-true}
use lib.{Dec.{eqb, leb}, ListN.{length, get_or, drop, length-drop, drop_of_length-le}, Seq.{get_or-take, get_or-drop, length-take-le}}
use Rattle.octets.specs.Octets.{be, be8, be16, be32}
use Rattle.records.specs.Sizes.{event_size}
use Rattle.records.proofs.Joined.{length_tabulate, get_or_tabulate}
use Rattle.laws.proofs.Loops.{rest}
use Rattle.timeline.specs.Timeline.{timeline_version, most_timed, timed_start, timed_size, timed_count, timeline_framed, timed_at, timed, timed_fits}
use Rattle.timeline.specs.Timeline.{in_time, timeline_fits}

-- ---- the header

-- what the test of the form is worth
pub record Form (t : List ℕ) : Type 0 where
  pub header : timed_start ≤ length t
  pub version : be16 t 0 ≡ timeline_version
  pub few : timed_count t ≤ most_timed
  pub start : be32 t 4 ≡ timed_start
  pub whole : length t ≡ timed_start + timed_count t * timed_size

-- both of two tests hold
both : (x y : Bool) → (x && y) ≡ true → (x ≡ true) × (y ≡ true)
both true y h = (refl, h)
both false y h = absurd (false≢true h)

-- a timeline that passes the test has the form
pub form : (t : List ℕ) → timeline_framed t ≡ true → Form t
unfolding timeline_framed
form t h =
    let a5 = both _ _ h in
    let a4 = both _ _ a5.0 in
    let a3 = both _ _ a4.0 in
    let a2 = both _ _ a3.0 in
    record {
      header = leb-true _ _ a2.0;
      version = eqb-true _ _ a2.1;
      few = leb-true _ _ a3.1;
      start = eqb-true _ _ a4.1;
      whole = eqb-true _ _ a5.1;
    }

-- the form's parts by name, for `omega` and `search`
pub framed_header : (t : List ℕ) → timeline_framed t ≡ true → timed_start ≤ length t
framed_header t h = (form t h).header

pub framed_few : (t : List ℕ) → timeline_framed t ≡ true → timed_count t ≤ most_timed
framed_few t h = (form t h).few

pub framed_whole : (t : List ℕ) → timeline_framed t ≡ true → length t ≡ timed_start + timed_count t * timed_size
framed_whole t h = (form t h).whole

-- ---- record i

module _ (t : List ℕ) (i : ℕ) where
  -- a record's event is whole
  pub event_whole : timeline_framed t ≡ true → i < timed_count t → length (timed_at t i).event ≡ event_size
  event_whole h k =
      let f = form t h in
      let n = length-drop (timed_start + i * timed_size + 8) t in
      length-take-le event_size (drop (timed_start + i * timed_size + 8) t) (omega arith)

  -- and stands in the timeline
  pub event_within : timeline_framed t ≡ true → i < timed_count t → timed_start + i * timed_size + 8 + event_size ≤ length t
  event_within h k = omega (arith, framed_whole)

  -- a record starts with its second
  pub second_there : be32 t (timed_start + i * timed_size) ≡ (timed_at t i).second
  second_there = ap (be32 t) (sym (add-zero (timed_start + i * timed_size)))

  -- its event starts 8 bytes behind, with its kind
  kind_there : be8 t (timed_start + i * timed_size + 8) ≡ be8 (timed_at t i).event 0
  unfolding be
  kind_there =
      let a = timed_start + i * timed_size + 8 in
      sym (get_or-take event_size (drop a t) 0 0 (omega arith) ∙ get_or-drop a t 0 0 ∙ ap (λ n. get_or t n 0) (add-zero a))

  -- the test of a record, by the three numbers that it looks at
  pub fits_by : (c : ℕ) {s b k : ℕ} → s ≡ be32 t (timed_start + i * timed_size) → b ≡ be32 t (timed_start + i * timed_size + 4)
      → k ≡ be8 t (timed_start + i * timed_size + 8) → (leb c s && eqb b 0 && not (eqb k 1)) ≡ timed_fits c (timed_at t i)
  unfolding timed_fits
  fits_by c {s} {b} {k} p q r =
      ap (λ s. leb c s && eqb b 0 && not (eqb k 1)) (p ∙ second_there)
      ∙ ap₂ (λ b k. leb c (timed_at t i).second && eqb b 0 && not (eqb k 1)) q (r ∙ kind_there)

  -- the records from the i-th on are it and those behind it
  pub timed_next : i < timed_count t → drop i (timed t) ≡ timed_at t i ∷ drop (i + 1) (timed t)
  timed_next h =
      let n = length_tabulate (timed_count t) (timed_at t) in
      rest (timed_at t i) (timed t) i (omega arith)
      ∙ ap (λ x. x ∷ drop (i + 1) (timed t)) (get_or_tabulate (timed_count t) (timed_at t) (timed_at t i) i h)

  -- behind the last there is none
  pub timed_end : timed_count t ≤ i → drop i (timed t) ≡ []
  timed_end h = let n = length_tabulate (timed_count t) (timed_at t) in drop_of_length-le (timed t) {i = i} (omega arith)

-- ---- whether seconds fall: w is what is asked, and b what the test of record i gives

module _ (t : List ℕ) (i c : ℕ) {w : Bool} (inv : in_time c (drop i (timed t)) ≡ w) where
  -- a record that does not fit
  pub in_time_stops : i < timed_count t → {b : Bool} → b ≡ timed_fits c (timed_at t i) → b ≡ false → false ≡ w
  unfolding in_time
  in_time_stops h q n = sym (rw (timed_next t i h, sym q ∙ n)) ∙ inv

  -- one that does
  pub in_time_goes_on : i < timed_count t → {b : Bool} → b ≡ timed_fits c (timed_at t i) → b ≡ true → {s : ℕ} → s ≡ (timed_at t i).second
      → in_time s (drop (i + 1) (timed t)) ≡ w
  unfolding in_time
  in_time_goes_on h q n e = ap (λ s. in_time s (drop (i + 1) (timed t))) e ∙ sym (rw (timed_next t i h, sym q ∙ n)) ∙ inv

  -- and no record left
  pub in_time_ends : timed_count t ≤ i → true ≡ w
  unfolding in_time
  in_time_ends h = sym (rw (timed_end t i h)) ∙ inv

-- a timeline that fits has the form
pub fits_framed : (c : ℕ) (t : List ℕ) → timeline_fits c t ≡ true → timeline_framed t ≡ true
fits_framed c t h = (both (timeline_framed t) (in_time c (timed t)) h).0
