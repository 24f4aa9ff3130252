-- Events in a buffer, one behind the other as long as there is room: one event, those of a record, and what is left of all. Assumes nothing.
use Prim.Native.Nat.{ℕ, suc, ◌+◌, ◌-◌, ◌*◌, ◌/◌, ◌≤◌, ◌<◌}
use mathlib.Core.{Bool.{Bool, true, false, cond}, List.{List, [], ◌∷◌, ◌++◌, append_assoc}, Path.{◌≡◌, refl, sym, ap, ap₂, ◌∙◌, subst}}
use native.{Mathlib.Nat.{add-zero}, Mathlib.Omega.arith}
use borrow.Author.Tests.{lt-ltb, le-ltb}
use lib.{Dec.{ltb, ltb→lt, nltb→le}, ListN.{length, take, drop}, Seq.{take-nil, drop-drop}}
use Rattle.octets.specs.Octets.{bytes, put, zeros}
use Rattle.octets.proofs.ByteLaws.{put_none, length_put}
use Rattle.records.specs.{Sizes.event_size, Layout.event_bytes, Phone.joined}
use Rattle.records.proofs.Puts.{put_next}
use Rattle.laws.proofs.Tests.{by_test}
use Rattle.timeline.specs.Timeline.{timed_start, timed_size, timed_count, timeline_framed, Timed, timed_at, timed, clock_event, record_events, unrolled}
use Rattle.timeline.specs.Unrolls.{room, with_event, with_more, with_events}
use Rattle.timeline.proofs.Framed.{event_whole, timed_next, timed_end}

-- events as bytes
abbrev all_of : List (List ℕ) → List ℕ
all_of vs = joined (λ v. v) vs

-- ---- one event

module _ (b : List ℕ) (n : ℕ) (v : List ℕ) where
  -- there is room for it
  event_in : n < room b → put b (n * event_size) v ≡ with_event b n v
  event_in h = sym (ap (λ y. cond y (put b (n * event_size) v) b) (lt-ltb n (room b) h))

  -- there is none
  event_out : room b ≤ n → b ≡ with_event b n v
  event_out h = sym (ap (λ y. cond y (put b (n * event_size) v) b) (le-ltb n (room b) h))

  -- a copy into the bytes where it belongs: w is what stands there then
  pub event_copied : length v ≡ event_size → n < room b → let a = n * event_size in let k = a + event_size - a in (w : List ℕ)
      → w ≡ v → take a b ++ (w ++ drop k (drop a b)) ≡ with_event b n v
  unfolding put
  event_copied s h w q =
      let a = n * event_size in
      let k = a + event_size - a in
      let e : k ≡ length v = omega arith in
      let behind : drop k (drop a b) ≡ drop (a + length v) b = drop-drop k a b ∙ ap (λ m. drop (a + m) b) e in
      ap₂ (λ x y. take a b ++ (x ++ y)) q behind ∙ sym (append_assoc (take a b) v (drop (a + length v) b)) ∙ event_in h

-- a clock event, by its two fields that are not 0: w is what is written for it
pub clock_placed : (b : List ℕ) (n s : ℕ) (v w : List ℕ) {o : List ℕ} → v ≡ put (zeros event_size) 0 (bytes 1 1) → w ≡ put v 8 (bytes 4 s)
    → o ≡ with_event b n w → o ≡ with_event b n (event_bytes (clock_event s))
unfolding put
clock_placed b n s v w e q p = p ∙ ap (with_event b n) (q ∙ ap (λ v. put v 8 (bytes 4 s)) e)

-- ---- the events of a record

-- the part of a timeline where its event stands
pub event_part : (t : List ℕ) (i : ℕ) → let a = timed_start + i * timed_size + 8 in take (a + event_size - a) (drop a t) ≡ (timed_at t i).event
event_part t i =
    let a = timed_start + i * timed_size + 8 in
    let k : a + event_size - a ≡ event_size = omega arith in
    ap (λ m. take m (drop a t)) k

-- record x is put from the n-th event on where the clock is c: m events are there then, and the buffer is b'
abbrev Placed : List ℕ → ℕ → ℕ → Timed → ℕ → List ℕ → Type 0
Placed b n c x m b' = (b' ≡ with_more b n (record_events c x)) × (m ≡ n + length (record_events c x))

-- v is its event, s its second, b₁ the buffer with the first of its events
module _ (b : List ℕ) (n c : ℕ) (x : Timed) {v : List ℕ} (e : v ≡ x.event) {s : ℕ} (q : s ≡ x.second) {b₁ : List ℕ} where
  -- the clock is below its second
  pub placed_two : c < s → b₁ ≡ with_event b n (event_bytes (clock_event s)) → {b₂ : List ℕ} → b₂ ≡ with_event b₁ (n + 1) v → Placed b n c x (n + 2) b₂
  placed_two h f {b₂} g =
      let z : ltb c x.second ≡ true = lt-ltb c x.second (omega arith) in
      let two = event_bytes (clock_event x.second) ∷ x.event ∷ [] in
      let w : two ≡ record_events c x = sym (ap (λ y. cond y two (x.event ∷ [])) z) in
      let o : b₁ ≡ with_event b n (event_bytes (clock_event x.second)) = f ∙ ap (λ s. with_event b n (event_bytes (clock_event s))) q in
      (g ∙ ap₂ (λ b₁ v. with_event b₁ (n + 1) v) o e ∙ ap (with_more b n) w, ap (λ vs. n + length vs) w)

-- ---- all of them

-- each is as long as an event is
abbrev pub Whole : List (List ℕ) → Type 0
Whole [] = Unit {0}
Whole (v ∷ vs) = (length v ≡ event_size) × Whole vs

-- a record stands for whole events
pub clock_whole : (c : ℕ) (x : Timed) → length x.event ≡ event_size → Whole (record_events c x)
clock_whole c x h = go (ltb c x.second)
  where
    go : (y : Bool) → Whole (cond y (event_bytes (clock_event x.second) ∷ x.event ∷ []) (x.event ∷ []))
    go true = (refl, (h, tt))
    go false = (h, tt)

-- one or two
pub clock_few : (c : ℕ) (x : Timed) → length (record_events c x) ≤ 2
clock_few c x = go (ltb c x.second)
  where
    go : (y : Bool) → length (cond y (event_bytes (clock_event x.second) ∷ x.event ∷ []) (x.event ∷ [])) ≤ 2
    go true = omega arith
    go false = omega arith

-- the events from the n-th on, which are `rest`, are still to be put
pub record Left (all : List (List ℕ)) (b₀ b : List ℕ) (n : ℕ) (rest : List (List ℕ)) : Type 0 where
  pub placed : put b (n * event_size) (all_of (take (room b₀ - n) rest)) ≡ with_events b₀ all
  pub count : n + length rest ≡ length all
  pub size : length b ≡ length b₀

module _ (all : List (List ℕ)) (b₀ : List ℕ) where
  -- one event more, where there is room for it
  left_in : (b : List ℕ) (n : ℕ) (v : List ℕ) (rest : List (List ℕ)) → length v ≡ event_size → n < room b₀
      → Left all b₀ b n (v ∷ rest) → Left all b₀ (put b (n * event_size) v) (n + 1) rest
  left_in b n v rest s h f =
      let l : length b ≡ length b₀ = f.size in
      let m : room b₀ - n ≡ suc (room b₀ - (n + 1)) = omega arith in
      let k : (n + 1) * event_size ≡ n * event_size + length v = omega arith in
      let more = all_of (take (room b₀ - (n + 1)) rest) in
      record {
        placed =
            ap (λ j. put (put b (n * event_size) v) j more) k
            ∙ put_next b (n * event_size) v more (omega arith)
            ∙ ap (λ j. put b (n * event_size) (all_of (take j (v ∷ rest)))) (sym m)
            ∙ f.placed;
        count = omega (arith, f.count);
        size = length_put b (n * event_size) v (omega arith) ∙ l;
      }

  -- and where there is none
  left_out : (b : List ℕ) (n : ℕ) (v : List ℕ) (rest : List (List ℕ)) → room b₀ ≤ n → Left all b₀ b n (v ∷ rest) → Left all b₀ b (n + 1) rest
  left_out b n v rest h f =
      let z : room b₀ - (n + 1) ≡ 0 = omega arith in
      let y : 0 ≡ room b₀ - n = omega arith in
      record {
        placed =
            ap (λ j. put b ((n + 1) * event_size) (all_of (take j rest))) z
            ∙ put_none b ((n + 1) * event_size)
            ∙ sym (put_none b (n * event_size))
            ∙ ap (λ j. put b (n * event_size) (all_of (take j (v ∷ rest)))) y
            ∙ f.placed;
        count = omega (arith, f.count);
        size = f.size;
      }

  -- one event more, room or no room
  left_less : (b : List ℕ) (n : ℕ) (v : List ℕ) (rest : List (List ℕ)) → length v ≡ event_size
      → Left all b₀ b n (v ∷ rest) → Left all b₀ (with_event b n v) (n + 1) rest
  left_less b n v rest s f =
      let same : room b ≡ room b₀ = ap (λ m. m / event_size) f.size in
      by_test (ltb n (room b))
      (λ h. let k = ltb→lt n (room b) h in subst (λ o. Left all b₀ o (n + 1) rest) (event_in b n v k) (left_in b n v rest s (omega arith) f))
      (λ h. let k = nltb→le n (room b) h in subst (λ o. Left all b₀ o (n + 1) rest) (event_out b n v k) (left_out b n v rest (omega arith) f))

  -- some more, each of them whole
  left_more : (b : List ℕ) (n : ℕ) (vs rest : List (List ℕ)) → Whole vs → Left all b₀ b n (vs ++ rest) → Left all b₀ (with_more b n vs) (n + length vs) rest
  left_more b n [] rest w f = subst (λ m. Left all b₀ b m rest) (sym (add-zero n)) f
  left_more b n (v ∷ vs) rest w f =
      let m : n + 1 + length vs ≡ n + length (v ∷ vs) = omega arith in
      subst (λ m. Left all b₀ (with_more b n (v ∷ vs)) m rest) m
      (left_more (with_event b n v) (n + 1) vs rest w.1 (left_less b n v (vs ++ rest) w.0 f))

  -- none left
  left_none : (b : List ℕ) (n : ℕ) → Left all b₀ b n [] → (b ≡ with_events b₀ all) × (n ≡ length all)
  left_none b n f =
      let z : [] ≡ take (room b₀ - n) [] = sym (take-nil (room b₀ - n)) in
      (sym (put_none b (n * event_size)) ∙ ap (λ vs. put b (n * event_size) (all_of vs)) z ∙ f.placed, omega (arith, f.count))

-- what a loop over the records keeps: i of them are put, which are n events, and the clock is c
pub record Unrolling (all : List (List ℕ)) (b₀ t b : List ℕ) (c n i : ℕ) : Type 0 where
  pub within : i ≤ timed_count t
  pub few : n ≤ 2 * i
  pub left : Left all b₀ b n (unrolled c (drop i (timed t)))

module _ (b₀ t : List ℕ) (c₀ : ℕ) where
  abbrev all_events : List (List ℕ)
  all_events = unrolled c₀ (timed t)

  module _ (b : List ℕ) (c n i : ℕ) (u : Unrolling all_events b₀ t b c n i) where
    -- one record more
    pub unrolling_goes_on : timeline_framed t ≡ true → i < timed_count t → {b' : List ℕ} {m s : ℕ} → b' ≡ with_more b n (record_events c (timed_at t i))
        → m ≡ n + length (record_events c (timed_at t i)) → s ≡ (timed_at t i).second → Unrolling all_events b₀ t b' s m (i + 1)
    unfolding unrolled
    unrolling_goes_on h k {b'} {m} {s} p e q =
        let x = timed_at t i in
        let behind = drop (i + 1) (timed t) in
        let next : unrolled c (drop i (timed t)) ≡ record_events c x ++ unrolled x.second behind = ap (unrolled c) (timed_next t i k) in
        let f = left_more all_events b₀ b n (record_events c x) (unrolled x.second behind) (clock_whole c x (event_whole t i h k))
        (subst (λ vs. Left all_events b₀ b n vs) next u.left) in
        let two = clock_few c x in
        record {
          within = omega arith;
          few = omega (arith, u.few);
          left =
              subst (λ s. Left all_events b₀ b' m (unrolled s behind)) (sym q)
              (subst (λ m. Left all_events b₀ b' m (unrolled x.second behind)) (sym e)
              (subst (λ o. Left all_events b₀ o (n + length (record_events c x)) (unrolled x.second behind)) (sym p) f));
        }

    -- behind the last
    pub unrolling_ends : timed_count t ≤ i → (b ≡ with_events b₀ all_events) × (n ≡ length all_events)
    unfolding unrolled
    unrolling_ends h = left_none all_events b₀ b n (subst (λ vs. Left all_events b₀ b n vs) (ap (unrolled c) (timed_end t i h)) u.left)
