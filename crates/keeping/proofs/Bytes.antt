-- One event and a run of events on the bytes of an image: what they make of the phone that it says, and that it stays accepted. Assumes nothing.
use Prim.Native.Nat.{ℕ}
use mathlib.Core.{Bool.{Bool, true, false, cond, not, ◌&&◌, true≢false}, List.{List, [], ◌∷◌, map}, Logic.{◌≢◌, ◌⊎◌, inl, inr, ◌↔◌}}
use mathlib.Core.Path.{◌≡◌, refl, subst, sym, ap, ◌∙◌}
use borrow.Author.Tests.{eq-eqb, ne_eqb}
use lib.{Dec.{T, eqb, eqb→eq}, ListN.length}
use Rattle.octets.proofs.ByteLaws.{Bytes}
use Rattle.records.specs.{Sizes.event_size, Layout.{event_read, event_bytes}, Phone.{Phone, decode, encode, certificate_at}, declared.Event.Event}
use Rattle.records.proofs.{Records.event_read_bytes, RoundTrip.{decode_encode, length_encode, frame}}
use Rattle.rules.specs.{declared.Answer.Answer, Words.{first, Check, ◌⇒◌}, ImageRules.accepted, Codes.{rows, refusals, code_of, code}, Effects.changed}
use Rattle.rules.specs.Step.{refused, refused_at, refusal, done, Outcome, step, run}
use Rattle.rules.specs.After.{after, after_all}
use Rattle.laws.proofs.{Tests.{and_l, and_r, by_test, eq→eqb, neqb→ne, not_elim, first_out}, Accepts.{T_true, accepted_out, accepted_in}}
use Rattle.laws.proofs.Marks.{MarkedBy, changed_marks}
use Rattle.keeping.proofs.{Shape.{shape_changed, sized_shape, mode_changed}, AcceptedKept.accepted_changed}
use Rattle.keeping.proofs.{Settle.request_changed, Header.{fitting, length_framed, framed_fitting}}

-- ---- the code

pub code_whole : (l v : List ℕ) → accepted l ≡ true → length v ≡ event_size → code l v ≡ code_of (decode l) (event_read v 0)
unfolding code code_of first
code_whole l v a h = rw (a, eq-eqb (length v) event_size h)

-- an event that is done has its 24 bytes and met an accepted image
pub record Whole (l v : List ℕ) : Type 0 where
  pub image : accepted l ≡ true
  pub event : length v ≡ event_size
  pub code : code_of (decode l) (event_read v 0) ≡ 0

pub code_whole_out : (l v : List ℕ) → code l v ≡ 0 → Whole l v
unfolding code
code_whole_out l v h =
    let w = first_out (rows l v) tt (eq→eqb (code l v) 0 h) in
    let a = T_true (accepted l) (not_elim (accepted l) w.0) in
    let n = eqb→eq (length v) event_size (not_elim (eqb (length v) event_size) w.1.0) in
    record { image = a; event = n; code = sym (code_whole l v a n) ∙ h }

-- ---- one event

abbrev pub event_done : List ℕ → List ℕ → Outcome
event_done l v =
    let p = changed (event_read v 0) (decode l) in
    record { answer = done (event_read v 0) p; image = encode p }

pub step_done : (l v : List ℕ) → code l v ≡ 0 → step l v ≡ event_done l v
unfolding step
step_done l v h = rw h

pub step_refused : (l v : List ℕ) → code l v ≢ 0 → step l v ≡ record { answer = refusal l (code l v); image = l }
unfolding step
step_refused l v h = rw (ne_eqb (code l v) 0 h)

-- what is told of a refusal: the fault of the image, or the code alone
pub refusal_cases : (P : Answer → Type 0) (l : List ℕ) (c : ℕ) → (c ≡ 1 → P (refused_at l)) → (c ≢ 1 → P (refused c)) → P (refusal l c)
unfolding refusal
refusal_cases P l c f g =
    by_test (eqb c 1)
    (λ t. rw (eq-eqb c 1 (eqb→eq c 1 t)) (f (eqb→eq c 1 t)))
    (λ t. rw (ne_eqb c 1 (neqb→ne c 1 t)) (g (neqb→ne c 1 t)))

-- no code of a list is k
abbrev lacks : ℕ → List Check → Bool
lacks k [] = not (eqb 0 k)
lacks k ((b ⇒ n) ∷ l) = not (eqb n k) && lacks k l

lacked : (k : ℕ) (l : List Check) → T (lacks k l) → first l ≢ k
unfolding first
lacked k [] h = neqb→ne 0 k h
lacked k ((true ⇒ n) ∷ l) h = neqb→ne n k (and_l (not (eqb n k)) (lacks k l) h)
lacked k ((false ⇒ n) ∷ l) h = lacked k l (and_r (not (eqb n k)) (lacks k l) h)

-- code 1 is the image's alone
pub never_one : (p : Phone) (e : Event) → code_of p e ≢ 1
unfolding code_of
never_one p e = lacked 1 (refusals p e) tt

pub code_one : (l v : List ℕ) → (code l v ≡ 1) ↔ (accepted l ≡ false)
unfolding code first
code_one l v = go (accepted l)
  where
    others : List Check
    others = (not (eqb (length v) event_size) ⇒ 2) ∷ refusals (decode l) (event_read v 0)

    go : (b : Bool) → (cond (not b) 1 (first others) ≡ 1) ↔ (b ≡ false)
    go true = (λ e. absurd (lacked 1 others tt e), λ e. absurd (true≢false e))
    go false = (λ e. refl, λ e. refl)

-- done, or refused
pub step_cases : (P : Outcome → Type 0) (l v : List ℕ) → (code l v ≡ 0 → P (event_done l v))
    → (code l v ≢ 0 → P (record { answer = refusal l (code l v); image = l })) → P (step l v)
step_cases P l v d r =
    by_test (eqb (code l v) 0)
    (λ t. let z = eqb→eq (code l v) 0 t in subst P (sym (step_done l v z)) (d z))
    (λ t. let z = neqb→ne (code l v) 0 t in subst P (sym (step_refused l v z)) (r z))

pub length_step : (l v : List ℕ) → length (step l v).image ≡ length l
length_step l v = step_cases (λ o. length o.image ≡ length l) l v go (λ z. refl)
  where
    go : code l v ≡ 0 → length (event_done l v).image ≡ length l
    go z =
        let s = shape_changed (event_read v 0) (decode l) in
        let f = length_framed l (accepted_out l (code_whole_out l v z).image).0 in
        length_encode (changed (event_read v 0) (decode l)) ∙ rw (s.certificates, s.cards, s.executables, s.table) (sym f)

pub accepted_step : (l v : List ℕ) → accepted l ≡ true → accepted (step l v).image ≡ true
accepted_step l v a = step_cases (λ o. accepted o.image ≡ true) l v (λ z. go (code_whole_out l v z).code) (λ z. a)
  where
    e : Event
    e = event_read v 0

    p : Phone
    p = decode l

    go : code_of p e ≡ 0 → accepted (encode (changed e p)) ≡ true
    go z =
        let ok = accepted_out l a in
        let f = fitting l ok.0 in
        let d : T (eqb (code_of p e) 0) = eq→eqb (code_of p e) 0 z in
        accepted_in (encode (changed e p))
        (framed_fitting (changed e p) (record { sized = sized_shape (shape_changed e p) f.sized; mode = mode_changed e p f.mode d }))
        (rw (decode_encode (changed e p)) (accepted_changed p e ok.1 d))

-- the phone after an event of 24 bytes
pub decode_step : (l v : List ℕ) → accepted l ≡ true → length v ≡ event_size → decode (step l v).image ≡ after (event_read v 0) (decode l)
unfolding after
decode_step l v a n =
    let e = event_read v 0 in
    let p = decode l in
    step_cases (λ o. decode o.image ≡ cond (eqb (code_of p e) 0) (changed e p) p) l v
    (λ z. let c : code_of p e ≡ 0 = sym (code_whole l v a n) ∙ z in rw c (decode_encode (changed e p)))
    (λ z. rw (ne_eqb (code_of p e) 0 (λ c. z (code_whole l v a n ∙ c))))

-- one of any other length changes nothing
pub step_other : (l v : List ℕ) → length v ≢ event_size → (step l v).image ≡ l
step_other l v n = step_cases (λ o. o.image ≡ l) l v (λ z. absurd (n (code_whole_out l v z).event)) (λ z. refl)

-- a certificate that is valid after an event was valid before it, or the event marks or installs it
pub marks_step : (l v : List ℕ) (i : ℕ) → (certificate_at (decode (step l v).image) i).mark ≡ 1 → MarkedBy (event_read v 0) (certificate_at (decode l) i)
marks_step l v i =
    let e = event_read v 0 in
    let p = decode l in
    step_cases (λ o. (certificate_at (decode o.image) i).mark ≡ 1 → MarkedBy e (certificate_at p i)) l v
    (λ z. rw (decode_encode (changed e p)) (changed_marks e p i))
    (λ z h. inl h)

-- a request changes nothing: the phone, of any numbers, and the image, of bytes
pub request_phone : (l v : List ℕ) → (event_read v 0).kind ≡ 15 → decode (step l v).image ≡ decode l
request_phone l v k =
    step_cases (λ o. decode o.image ≡ decode l) l v
    (λ z.
    let ok = accepted_out l (code_whole_out l v z).image in
    decode_encode (changed (event_read v 0) (decode l)) ∙ request_changed (decode l) ok.1 (event_read v 0) k)
    (λ z. refl)

pub request_step : (l v : List ℕ) → Bytes l → (event_read v 0).kind ≡ 15 → (step l v).image ≡ l
request_step l v b k =
    step_cases (λ o. o.image ≡ l) l v
    (λ z.
    let ok = accepted_out l (code_whole_out l v z).image in
    ap encode (request_changed (decode l) ok.1 (event_read v 0) k) ∙ sym (frame l b ok.0).shaped)
    (λ z. refl)

-- ---- a run

pub length_run : (vs : List (List ℕ)) (l : List ℕ) → length (run l vs) ≡ length l
unfolding run
length_run [] l = refl
length_run (v ∷ vs) l = length_run vs (step l v).image ∙ length_step l v

pub accepted_run : (vs : List (List ℕ)) (l : List ℕ) → accepted l ≡ true → accepted (run l vs) ≡ true
unfolding run
accepted_run [] l a = a
accepted_run (v ∷ vs) l a = accepted_run vs (step l v).image (accepted_step l v a)

-- a run that changes something leaves the image of the phone that it says
abbrev Written : List ℕ → Type 0
Written l = l ≡ encode (decode l)

pub run_written : (vs : List (List ℕ)) (l : List ℕ) → (run l vs ≡ l) ⊎ Written (run l vs)
unfolding run
run_written [] l = inl refl
run_written (v ∷ vs) l =
    step_cases (λ o. (run o.image vs ≡ l) ⊎ Written (run o.image vs)) l v
    (λ z. inr (written (run_written vs _))) (λ z. run_written vs l)
  where
    m : List ℕ
    m = (event_done l v).image

    written : (run m vs ≡ m) ⊎ Written (run m vs) → Written (run m vs)
    written (inl s) = subst Written (sym s) (sym (ap encode (decode_encode (changed (event_read v 0) (decode l)))))
    written (inr w) = w

-- the events of a run, less those that have not 24 bytes
unfoldable pub whole : List (List ℕ) → List Event
whole [] = []
whole (v ∷ vs) = cond (eqb (length v) event_size) (event_read v 0 ∷ whole vs) (whole vs)

pub decode_run : (vs : List (List ℕ)) (l : List ℕ) → accepted l ≡ true → decode (run l vs) ≡ after_all (whole vs) (decode l)
unfolding run whole after_all
decode_run [] l a = refl
decode_run (v ∷ vs) l a =
    decode_run vs (step l v).image (accepted_step l v a)
    ∙ by_test (eqb (length v) event_size)
    (λ t. let n = eqb→eq (length v) event_size t in rw (eq-eqb (length v) event_size n, decode_step l v a n))
    (λ t. let n = neqb→ne (length v) event_size t in rw (ne_eqb (length v) event_size n, step_other l v n))

-- events written as bytes are read as they were
pub whole_bytes : {A : Type 0} (f : A → Event) (l : List A) → whole (map (λ x. event_bytes (f x)) l) ≡ map f l
unfolding whole
whole_bytes f [] = refl
whole_bytes f (x ∷ l) = rw (event_read_bytes (f x), whole_bytes f l)
