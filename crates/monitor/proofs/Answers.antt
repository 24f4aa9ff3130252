-- Each part of an answer fits the bytes that it is told in, and an answer can be read back from the number and from the bytes. Assumes nothing.
use Prim.Native.Nat.{ℕ, zero, suc, ◌+◌, ◌*◌, ◌/◌, ◌%◌, ◌≤◌, ◌<◌}
use mathlib.Core.{Bool.{Bool, true, false, cond, ◌&&◌, ◌||◌}, List.{List, [], ◌∷◌, ◌++◌, Memᴰ}, Logic.◌≢◌}
use mathlib.Core.Path.{◌≡◌, refl, sym, ap, ◌∙◌}
use native.{Mathlib.Nat.{add-zero, zero-add, zero-mul}, Mathlib.Omega.arith}
use lib.{Dec.{T, eqb, leb, leb→le}, ListN.{length, get_or, take, drop}, Seq.{drop-drop, get_or-append-add}}
use Rattle.octets.specs.Octets.{put}
use Rattle.records.specs.{Sizes.event_size, Phone.{Phone, decode, joined}, declared.Event.Event}
use Rattle.records.proofs.Joined.{read_joined}
use Rattle.rules.specs.{Words.{Check, ◌⇒◌, first, find}, ImageRules.{accepted, «open»}, Chains.{most_links, links}, Codes.{executable_named, rows, code}}
use Rattle.rules.specs.{Effects.changed, declared.Answer.Answer, Step.{refused, refused_at, answer_done, opened, refusal, done, step, run, answers}}
use Rattle.laws.proofs.{Tests.{and_l, and_r, eq→eqb}, Accepted.Accepted, Accepts.accepted_out, Shortest.links_small, Where.{rule_known, offset_small}}
use Rattle.keeping.specs.OneEvent.{event_of}
use Rattle.keeping.proofs.{Bytes.{step_cases, step_refused, refusal_cases, code_whole_out}, AcceptedKept.accepted_changed, EventAnswers.zero_if}
use Rattle.keeping.proofs.Naming.{small_domain}
use Rattle.monitor.specs.Told.{packed, told_code, told_domain, told_links, told_rule, told_offset, answer_size, answer_bytes, answer_from, answer_at}
use Rattle.monitor.specs.Told.{events_of}

-- ---- every part is a byte, and the offset is two

-- no code is above this one
abbrev highest_code : ℕ
highest_code = 18

pub record Small (a : Answer) : Type 0 where
  pub code : a.code ≤ highest_code
  pub domain : a.domain ≤ 3
  pub links : a.links ≤ most_links
  pub rule : a.rule ≤ 8
  pub offset : a.offset < 65536

-- no number of a table is above m
abbrev none_above : ℕ → List Check → Bool
none_above m [] = true
none_above m ((b ⇒ n) ∷ l) = leb n m && none_above m l

first_small : (m : ℕ) (l : List Check) → T (none_above m l) → first l ≤ m
unfolding first
first_small m [] h = omega arith
first_small m ((true ⇒ n) ∷ l) h = leb→le n m (and_l (leb n m) (none_above m l) h)
first_small m ((false ⇒ n) ∷ l) h = first_small m l (and_r (leb n m) (none_above m l) h)

-- an answer that is a code alone
code_small : (c : ℕ) → c ≤ highest_code → Small (refused c)
code_small c h = record { code = h; domain = omega arith; links = omega arith; rule = omega arith; offset = omega arith }

fault_small : (l : List ℕ) → Small (refused_at l)
fault_small l = record { code = omega arith; domain = omega arith; links = omega arith; rule = rule_known l; offset = offset_small l }

refused_small : (l v : List ℕ) → Small (refusal l (code l v))
unfolding code
refused_small l v = refusal_cases Small l (code l v) (λ e. fault_small l) (λ n. code_small (code l v) (first_small highest_code (rows l v) tt))

-- what is found is the one that stands for none, or one of the list
found : {A : Type 0} (P : A → Type 0) (t : A → Bool) (d : A) (l : List A) → P d → ((x : A) → Memᴰ x l → P x) → P (find t d l)
unfolding find
found P t d [] z h = z
found {A} P t d (x ∷ l) z h = go (t x) (found P t d l z (λ y m. h y (Memᴰ.tail m)))
  where
    go : (b : Bool) → P (find t d l) → P (cond b x (find t d l))
    go true r = h x (Memᴰ.head refl)
    go false r = r

named_small : (p : Phone) → Accepted p → (n : ℕ) → (executable_named p n).domain ≤ 3
unfolding executable_named
named_small p ok n = found (λ x. x.domain ≤ 3) _ _ p.executables (omega arith) (small_domain p ok)

-- of a verify and a request, and of any other that is done
abbrev told_named : Phone → ℕ → Answer
told_named p n =
    let x = executable_named p n in
    record { code = 0; domain = x.domain; links = links p.trust x.signing x.domain; rule = 0; offset = 0 }

told_small : (p : Phone) → Accepted p → (n : ℕ) (b : Bool) → Small (cond b (told_named p n) (refused 0))
told_small p ok n true =
    record {
      code = omega arith;
      domain = named_small p ok n;
      links = links_small p.trust (executable_named p n).signing (executable_named p n).domain;
      rule = omega arith;
      offset = omega arith;
    }
told_small p ok n false = code_small 0 (omega arith)

done_small : (e : Event) (p : Phone) → Accepted p → Small (done e p)
unfolding done
done_small e p ok = told_small p ok e.id (eqb e.kind 12 || eqb e.kind 15)

pub answer_small : (l v : List ℕ) → Small (step l v).answer
answer_small l v =
    step_cases (λ o. Small o.answer) l v
    (λ z.
    let w = code_whole_out l v z in
    done_small (event_of v) (changed (event_of v) (decode l)) (accepted_changed (decode l) (event_of v) (accepted_out l w.image).1 (eq→eqb _ 0 w.code)))
    (λ n. refused_small l v)

-- ---- read back from the number

pub unpacked : (a : Answer) → Small a
    → (told_code (packed a) ≡ a.code)
    × (told_domain (packed a) ≡ a.domain)
    × (told_links (packed a) ≡ a.links)
    × (told_rule (packed a) ≡ a.rule)
    × (told_offset (packed a) ≡ a.offset)
unpacked a s =
    let c : a.code ≤ highest_code = s.code in
    let d : a.domain ≤ 3 = s.domain in
    let k : a.links ≤ 4 = s.links in
    let r : a.rule ≤ 8 = s.rule in
    let o : a.offset < 65536 = s.offset in
    (omega arith, omega arith, omega arith, omega arith, omega arith)

-- the lowest three bytes are what they are without rule and offset
pub low_bits : (a : Answer) → a.code < 256 → a.domain < 256 → a.links < 256
    → packed a % 16777216 ≡ (a.code * 256 + a.domain) * 256 + a.links
low_bits a c d k = omega arith

-- ---- what opening tells

module _ (l : List ℕ) where
  pub opened_small : Small (opened l)
  unfolding opened
  opened_small = go (accepted l)
    where
      go : (b : Bool) → Small (cond b (answer_done 0 0) (refused_at l))
      go true = code_small 0 (omega arith)
      go false = fault_small l

  pub open_one : accepted l ≢ true → «open» l ≡ 1
  unfolding «open»
  open_one n = go (accepted l) n
    where
      go : (b : Bool) → b ≢ true → zero_if b ≡ 1
      go true n = absurd (n refl)
      go false n = refl

-- ---- what a refusal tells

-- the domain and the links of an event that is not done
pub refused_quiet : (l v : List ℕ) → code l v ≢ 0
    → ((step l v).image ≡ l) × ((step l v).answer.domain ≡ 0) × ((step l v).answer.links ≡ 0)
refused_quiet l v h =
    let q = refusal_cases (λ a. (a.domain ≡ 0) × (a.links ≡ 0)) l (code l v) (λ e. (refl, refl)) (λ n. (refl, refl)) in
    rw (step_refused l v h) (refl, q.0, q.1)

-- ---- read back from a buffer

pub length_answers : (n : ℕ) (l b : List ℕ) → length (answers l (events_of b n)) ≡ n
unfolding answers
length_answers zero l b = refl
length_answers (suc n) l b = ap suc (length_answers n (step l (take event_size b)).image (drop event_size b))

-- the i-th answer of a run is that of the i-th event on the image after those before it
nth_answer : (n : ℕ) (l b : List ℕ) (d : Answer) (i : ℕ) → i < n
    → get_or (answers l (events_of b n)) i d ≡ (step (run l (events_of b i)) (take event_size (drop (i * event_size) b))).answer
unfolding answers run
nth_answer zero l b d i h = absurd (omega arith)
nth_answer (suc n) l b d zero h = ap (λ (m : ℕ). (step l (take event_size (drop m b))).answer) (sym (zero-mul event_size))
nth_answer (suc n) l b d (suc i) h =
    let j : event_size + i * event_size ≡ suc i * event_size = omega arith in
    nth_answer n (step l (take event_size b)).image (drop event_size b) d i (omega arith)
    ∙ ap (λ (c : List ℕ). (step (run (step l (take event_size b)).image (events_of (drop event_size b) i)) (take event_size c)).answer)
    (drop-drop (i * event_size) event_size b ∙ ap (λ (m : ℕ). drop m b) j)

answer_there : (xs ys : List ℕ) (a : Answer) → answer_from (xs ++ (answer_bytes a ++ ys)) (length xs) ≡ a
answer_there xs ys a =
    let l = xs ++ (answer_bytes a ++ ys) in
    let at : (k : ℕ) → get_or l (length xs + k) 0 ≡ get_or (answer_bytes a ++ ys) k 0 = λ k. get_or-append-add xs (answer_bytes a ++ ys) k 0 in
    let two : a.offset / 256 * 256 + a.offset % 256 ≡ a.offset = omega arith in
    rw (ap (λ (n : ℕ). get_or l n 0) (sym (add-zero (length xs))) ∙ at 0, at 1, at 2, at 3, at 4, at 5, two) refl

pub nth_told : (l b out : List ℕ) (n i : ℕ) → i < n
    → answer_at (put out 0 (joined answer_bytes (answers l (events_of b n)))) i
    ≡ (step (run l (events_of b i)) (take event_size (drop (i * event_size) b))).answer
unfolding put
nth_told l b out n i h =
    let cs = answers l (events_of b n) in
    let post = drop (0 + length (joined answer_bytes cs)) out in
    ap (answer_from (joined answer_bytes cs ++ post)) (sym (zero-add (i * answer_size)))
    ∙ read_joined answer_bytes answer_size (λ a. refl) [] cs i (omega (arith, length_answers n l b)) answer_from answer_there post (refused 0)
    ∙ nth_answer n l b (refused 0) i h

-- ---- a run in two pieces

run_append : (xs ys : List (List ℕ)) (l : List ℕ) → run l (xs ++ ys) ≡ run (run l xs) ys
unfolding run
run_append [] ys l = refl
run_append (v ∷ xs) ys l = run_append xs ys (step l v).image

answers_append : (xs ys : List (List ℕ)) (l : List ℕ) → answers l (xs ++ ys) ≡ answers l xs ++ answers (run l xs) ys
unfolding run answers
answers_append [] ys l = refl
answers_append (v ∷ xs) ys l = ap (λ (rs : List Answer). (step l v).answer ∷ rs) (answers_append xs ys (step l v).image)

events_append : (n m : ℕ) (b : List ℕ) → events_of b (n + m) ≡ events_of b n ++ events_of (drop (n * event_size) b) m
events_append zero m b = ap (events_of b) (zero-add m)
events_append (suc n) m b =
    let j : event_size + n * event_size ≡ suc n * event_size = omega arith in
    let k : suc n + m ≡ suc (n + m) = omega arith in
    ap (events_of b) k
    ∙ ap (λ (vs : List (List ℕ)). take event_size b ∷ vs)
    (events_append n m (drop event_size b)
    ∙ ap (λ (c : List ℕ). events_of (drop event_size b) n ++ events_of c m) (drop-drop (n * event_size) event_size b ∙ ap (λ (i : ℕ). drop i b) j))

pub run_further : (l b : List ℕ) (n m : ℕ) → run l (events_of b (n + m)) ≡ run (run l (events_of b n)) (events_of (drop (n * event_size) b) m)
run_further l b n m = ap (run l) (events_append n m b) ∙ run_append (events_of b n) (events_of (drop (n * event_size) b) m) l

pub answers_further : (l b : List ℕ) (n m : ℕ)
    → answers l (events_of b (n + m)) ≡ answers l (events_of b n) ++ answers (run l (events_of b n)) (events_of (drop (n * event_size) b) m)
answers_further l b n m = ap (answers l) (events_append n m b) ∙ answers_append (events_of b n) (events_of (drop (n * event_size) b) m) l
