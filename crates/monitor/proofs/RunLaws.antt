-- Laws of a run: what is left of it shrinks by an event at a time. Assumes nothing.
use Prim.Native.Nat.{ℕ, zero, suc, ◌+◌, ◌-◌, ◌*◌, ◌/◌, ◌%◌, ◌≤◌, ◌<◌}
use mathlib.Core.{Bool.{Bool, false, cond}, List.{List, [], ◌∷◌}, Logic.◌≢◌, Path.{◌≡◌, refl, sym, ap, ap₂, ◌∙◌, subst}}
use native.{Mathlib.Nat.sub-zero, Mathlib.Omega.arith}
use borrow.Author.Tests.{eq-eqb, ne_eqb}
use lib.{Dec.{eqb, eqb→eq}, ListN.{length, take, drop, replicate, length-drop}, Seq.{drop-drop, take_all}}
use Rattle.octets.specs.Octets.{put}
use Rattle.octets.proofs.ByteLaws.{put_none, length_put}
use Rattle.records.specs.{Sizes.event_size, Phone.joined}
use Rattle.records.proofs.Puts.{put_next}
use Rattle.rules.specs.{declared.Answer.Answer, ImageRules.accepted, Step.{refused_at, opened, run, answers}}
use Rattle.laws.proofs.{Tests.{by_test, neqb→ne}}
use Rattle.events.specs.Stepped.{Stepped, SteppedAccepted}
use Rattle.events.proofs.Steps.{broken_stepped}
use Rattle.monitor.specs.Told as Told
use Rattle.monitor.specs.Told.{packed, answer_size, answer_bytes, events_of, event_count, answered, Followed}

-- ---- how many events there are, and the one that may be short

pub count_whole : (n : ℕ) → n % event_size ≡ 0 → n / event_size ≡ event_count n
count_whole n h = sym (ap (λ (t : Bool). cond t (n / event_size) (n / event_size + 1)) (eq-eqb (n % event_size) 0 h))

pub count_short : (n : ℕ) → n % event_size ≢ 0 → n / event_size + 1 ≡ event_count n
count_short n h = sym (ap (λ (t : Bool). cond t (n / event_size) (n / event_size + 1)) (ne_eqb (n % event_size) 0 h))

pub last_event : (b : List ℕ) (i : ℕ) → length b - i < event_size → take (length b - i) (drop i b) ≡ take event_size (drop i b)
last_event b i h =
    let k : length (drop i b) ≡ length b - i = length-drop i b in
    take_all (length b - i) (drop i b) (omega arith) ∙ sym (take_all event_size (drop i b) (omega arith))

pub whole_event : (b : List ℕ) (i : ℕ) → take (i + event_size - i) (drop i b) ≡ take event_size (drop i b)
whole_event b i =
    let k : i + event_size - i ≡ event_size = omega arith in
    ap (λ (n : ℕ). take n (drop i b)) k

pub stepped_same : (l v w : List ℕ) (r : Answer) (l' : List ℕ) → v ≡ w → SteppedAccepted l v r l' → SteppedAccepted l w r l'
stepped_same l v w r l' e s = subst (λ (x : List ℕ). SteppedAccepted l x r l') e s

-- ---- answers one after the other

abbrev pub told_by : List ℕ → ℕ → List Answer → List ℕ
told_by out i rs = put out (i * answer_size) (joined answer_bytes rs)

tell_next : (out : List ℕ) (i : ℕ) (r : Answer) (rs : List Answer) → i * answer_size ≤ length out
    → told_by (put out (i * answer_size) (answer_bytes r)) (i + 1) rs ≡ told_by out i (r ∷ rs)
tell_next out i r rs h =
    let k : (i + 1) * answer_size ≡ i * answer_size + length (answer_bytes r) = omega arith in
    ap (λ (n : ℕ). put (put out (i * answer_size) (answer_bytes r)) n (joined answer_bytes rs)) k
    ∙ put_next out (i * answer_size) (answer_bytes r) (joined answer_bytes rs) h

-- ---- what is left of n events behind the first i

abbrev pub rest : List ℕ → ℕ → ℕ → List (List ℕ)
rest b n i = events_of (drop (i * event_size) b) (n - i)

rest_next : (b : List ℕ) (n i : ℕ) → i < n → rest b n i ≡ take event_size (drop (i * event_size) b) ∷ rest b n (i + 1)
rest_next b n i h =
    let k : n - i ≡ suc (n - (i + 1)) = omega arith in
    let j : i * event_size + event_size ≡ (i + 1) * event_size = omega arith in
    ap (events_of (drop (i * event_size) b)) k
    ∙ ap (λ (c : List ℕ). take event_size (drop (i * event_size) b) ∷ events_of c (n - (i + 1)))
    (drop-drop event_size (i * event_size) b ∙ ap (λ (m : ℕ). drop m b) j)

pub record Left (l₀ b out₀ : List ℕ) (n : ℕ) (l out : List ℕ) (i : ℕ) : Type 0 where
  pub within : i ≤ n
  pub image : run l (rest b n i) ≡ run l₀ (events_of b n)
  pub told : told_by out i (answers l (rest b n i)) ≡ told_by out₀ 0 (answers l₀ (events_of b n))
  pub room : length out ≡ length out₀

module _ (l₀ b out₀ : List ℕ) (n : ℕ) where
  pub left_all : Left l₀ b out₀ n l₀ out₀ 0
  left_all =
      let k : events_of b (n - 0) ≡ events_of b n = ap (events_of b) (sub-zero n) in
      record {
        within = omega arith;
        image = ap (run l₀) k;
        told = ap (λ (vs : List (List ℕ)). told_by out₀ 0 (answers l₀ vs)) k;
        room = refl;
      }

  pub left_less : (l out : List ℕ) (i : ℕ) → Left l₀ b out₀ n l out i → i < n → n * answer_size ≤ length out₀
      → (r : Answer) (l' out' : List ℕ) → Stepped l (take event_size (drop (i * event_size) b)) r l'
      → out' ≡ put out (i * answer_size) (answer_bytes r) → Left l₀ b out₀ n l' out' (i + 1)
  unfolding run answers
  left_less l out i f h m r l' out' s o =
      let v = take event_size (drop (i * event_size) b) in
      let e : rest b n i ≡ v ∷ rest b n (i + 1) = rest_next b n i h in
      let room : length out ≡ length out₀ = f.room in
      let h' : i * answer_size + answer_size ≤ length out = omega arith in
      record {
        within = omega arith;
        image = ap (λ (x : List ℕ). run x (rest b n (i + 1))) s.image ∙ sym (ap (run l) e) ∙ f.image;
        told =
            ap (λ (x : List ℕ). told_by x (i + 1) (answers l' (rest b n (i + 1)))) o
            ∙ tell_next out i r (answers l' (rest b n (i + 1))) (omega arith)
            ∙ ap₂ (λ (a : Answer) (x : List ℕ). told_by out i (a ∷ answers x (rest b n (i + 1)))) s.answer s.image
            ∙ sym (ap (λ (vs : List (List ℕ)). told_by out i (answers l vs)) e)
            ∙ f.told;
        room = ap length o ∙ length_put out (i * answer_size) (answer_bytes r) h' ∙ room;
      }

  pub left_none : (l out : List ℕ) (i : ℕ) → Left l₀ b out₀ n l out i → n ≤ i → Followed l₀ b out₀ n l out
  unfolding run answers
  left_none l out i f h =
      let w : i ≤ n = f.within in
      let z : n - i ≡ 0 = omega arith in
      let k : rest b n i ≡ [] = ap (events_of (drop (i * event_size) b)) z in
      record {
        image = sym (ap (run l) k) ∙ f.image;
        told = sym (put_none out (i * answer_size)) ∙ sym (ap (λ (vs : List (List ℕ)). told_by out i (answers l vs)) k) ∙ f.told;
      }

-- ---- one event

pub packed_stepped : (l v : List ℕ) (r : ℕ) (a : Answer) (l' : List ℕ) → r ≡ packed a → Stepped l v a l' → Told.Stepped l v r l'
packed_stepped l v r a l' q s = record { answer = q ∙ ap packed s.answer; image = s.image }

-- ---- an image that is not accepted

module _ (l : List ℕ) (h : accepted l ≡ false) where
  told : opened l ≡ refused_at l
  unfolding opened
  told = rw h

  still : (v : List ℕ) → Stepped l v (refused_at l) l
  still v = broken_stepped l v h (refused_at l) (sym told)

  broken_run : (vs : List (List ℕ)) → run l vs ≡ l
  unfolding run
  broken_run [] = refl
  broken_run (v ∷ vs) = ap (λ (x : List ℕ). run x vs) (sym (still v).image) ∙ broken_run vs

  broken_answers : (n : ℕ) (b : List ℕ) → answers l (events_of b n) ≡ replicate n (refused_at l)
  unfolding answers
  broken_answers zero b = refl
  broken_answers (suc n) b =
      let s = still (take event_size b) in
      ap₂ (λ (a : Answer) (x : List ℕ). a ∷ answers x (events_of (drop event_size b) n)) (sym s.answer) (sym s.image)
      ∙ ap (λ (rs : List Answer). refused_at l ∷ rs) (broken_answers n (drop event_size b))

  pub broken_followed : (b out out' : List ℕ) (n : ℕ) (a : Answer) → a ≡ opened l
      → out' ≡ put out 0 (joined answer_bytes (replicate n a)) → Followed l b out n l out'
  broken_followed b out out' n a q t =
      record {
        image = sym (broken_run (events_of b n));
        told =
            t ∙ ap (λ (x : Answer). put out 0 (joined answer_bytes (replicate n x))) (q ∙ told)
            ∙ sym (ap (λ (rs : List Answer). put out 0 (joined answer_bytes rs)) (broken_answers n b));
      }

-- what is left of n refusals behind the first i, each told by a
pub record Untold (a : Answer) (out₀ : List ℕ) (n : ℕ) (out : List ℕ) (i : ℕ) : Type 0 where
  pub within : i ≤ n
  pub told : told_by out i (replicate (n - i) a) ≡ told_by out₀ 0 (replicate n a)
  pub room : length out ≡ length out₀

module _ (a : Answer) (out₀ : List ℕ) (n : ℕ) where
  pub untold_all : Untold a out₀ n out₀ 0
  untold_all =
      record {
        within = omega arith;
        told = ap (λ (m : ℕ). told_by out₀ 0 (replicate m a)) (sub-zero n);
        room = refl;
      }

  pub untold_less : (out : List ℕ) (i : ℕ) → Untold a out₀ n out i → i < n → n * answer_size ≤ length out₀
      → (out' : List ℕ) → out' ≡ put out (i * answer_size) (answer_bytes a) → Untold a out₀ n out' (i + 1)
  untold_less out i f h m out' o =
      let k : n - i ≡ suc (n - (i + 1)) = omega arith in
      let room : length out ≡ length out₀ = f.room in
      let h' : i * answer_size + answer_size ≤ length out = omega arith in
      record {
        within = omega arith;
        told =
            ap (λ (x : List ℕ). told_by x (i + 1) (replicate (n - (i + 1)) a)) o
            ∙ tell_next out i a (replicate (n - (i + 1)) a) (omega arith)
            ∙ sym (ap (λ (m : ℕ). told_by out i (replicate m a)) k)
            ∙ f.told;
        room = ap length o ∙ length_put out (i * answer_size) (answer_bytes a) h' ∙ room;
      }

  pub untold_none : (out : List ℕ) (i : ℕ) → Untold a out₀ n out i → n ≤ i → out ≡ put out₀ 0 (joined answer_bytes (replicate n a))
  untold_none out i f h =
      let w : i ≤ n = f.within in
      let z : n - i ≡ 0 = omega arith in
      sym (put_none out (i * answer_size)) ∙ sym (ap (λ (m : ℕ). told_by out i (replicate m a)) z) ∙ f.told

-- ---- how many there is room for

-- as many records as hold n bytes, and one fewer would not
pub counted : (n : ℕ) → (n ≤ event_count n * event_size) × (event_count n * event_size < n + event_size)
counted n =
    by_test (eqb (n % event_size) 0)
    (λ t. let z = eqb→eq (n % event_size) 0 t in let e = count_whole n z in (omega arith, omega arith))
    (λ t. let z = neqb→ne (n % event_size) 0 t in let e = count_short n z in (omega arith, omega arith))

pub answered_room : (n m : ℕ) → answered n m * answer_size ≤ m
answered_room n m = omega arith

-- what a run asks of the number of events
module _ (n m k : ℕ) (c : k ≡ answered n m) where
  pub within_events : k * event_size ≤ n + event_size
  within_events = let e = counted n in omega arith

  pub within_room : k * answer_size ≤ m
  within_room = let r = answered_room n m in omega arith
