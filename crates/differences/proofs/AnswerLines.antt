-- The text of the answers: what is written of one, and line behind line. Assumes nothing.
use Prim.Native.Nat.{ℕ, ◌+◌, ◌-◌, ◌/◌, ◌%◌, ◌≤◌, ◌<◌}
use mathlib.Core.{Bool.{Bool, true, false, cond}, List.{List, ◌++◌, append-nil}, Logic.◌≢◌, Path.{◌≡◌, refl, sym, ap, ap₂, ◌∙◌}}
use native.{Mathlib.Nat.zero-add, Mathlib.Numerals.add-one, Mathlib.Omega.arith}
use borrow.Author.Tests.{eq-eqb, ne_eqb, le-leb, lt-leb}
use lib.{Dec.eqb, ListN.{length, get_or, take, drop, length-append, length-drop, take-append-drop, drop_of_length-le}}
use lib.Seq.{length-take-le, take_all, take-append_seam, drop-cons}
use Rattle.octets.specs.Octets.{put}
use Rattle.rules.specs.declared.Answer.{Answer}
use Rattle.records.proofs.Puts.{put_right}
use Rattle.stream.specs.{PrintedLines.{longest_line, heading}, Refusal.image_refused}
use Rattle.stream.proofs.JoinedTexts.{Put, then, line_small, refusal_small}
use Rattle.differences.specs.WrittenAnswers.{answer_of, told_line, opened_line, kind_at, text_room, lines_behind, written}

-- ---- one answer

-- a refused image, where a is the parts of what is told
pub told_refusal : (opened n kind t : ℕ) {a : Answer} → a ≡ answer_of t → t / 16777216 ≢ 0 → t ≢ opened → t % 16777216 ≡ 65536
    → told_line opened n kind t ≡ image_refused a.rule a.offset
unfolding told_line
told_refusal opened n kind t e h k m =
    rw (ne_eqb (t / 16777216) 0 h, ne_eqb t opened k, eq-eqb (t % 16777216) 65536 m)
    (ap (λ (a : Answer). image_refused a.rule a.offset) (sym e))

-- a text that is put at the start of what lies from i on
pub put_behind : (l : List ℕ) (i : ℕ) (text : List ℕ) {s : List ℕ} {n : ℕ} → i ≤ length l
    → (s ≡ put (take (length l - i) (drop i l)) 0 text) × (n ≡ length text) → Put l i text (take i l ++ (s ++ drop (length l - i) (drop i l))) (i + n)
put_behind l i text h p =
    let rest = drop i l in
    let all : length rest ≤ length l - i = omega (arith, length-drop i l) in
    let place : length (take i l) + 0 ≡ i = omega (arith, length-take-le i l h) in
    let whole = p.0 ∙ ap (λ (m : List ℕ). put m 0 text) (take_all (length l - i) rest all) in
    let part = ap₂ (λ (m e : List ℕ). take i l ++ (m ++ e)) whole (drop_of_length-le rest all) in
    let ended = ap (λ (m : List ℕ). take i l ++ m) (append-nil (put rest 0 text)) in
    let put-at = ap₂ (λ (m : List ℕ) (k : ℕ). put m k text) (take-append-drop i l) place in
    (part ∙ ended ∙ sym (put_right (take i l) rest 0 text) ∙ put-at, ap (λ (m : ℕ). i + m) p.1)

-- nothing is longer than the longest line
short : (b : Bool) (x y : List ℕ) → length x ≤ longest_line → length y ≤ longest_line → length (cond b x y) ≤ longest_line
short true x y h k = h
short false x y h k = k

pub told_small : (opened n kind t : ℕ) → length (told_line opened n kind t) ≤ longest_line
unfolding told_line
told_small opened n kind t =
    let a = answer_of t in
    short (eqb (t / 16777216) 0) _ _ (line_small n kind a)
    (short (eqb t opened) _ _ (omega arith)
    (short (eqb (t % 16777216) 65536) _ _ (omega (arith, refusal_small a.rule a.offset)) (line_small t kind a)))

-- ---- what opening told

pub opened_small : (t : ℕ) → length (opened_line t) ≤ longest_line
unfolding opened_line
opened_small t = short (eqb t 0) _ _ (omega arith) (told_small 0 0 0 t)

-- ---- line behind line

-- what stands before the place behind a text
front : (l : List ℕ) (i : ℕ) (text : List ℕ) {s : List ℕ} {j : ℕ} → i ≤ length l → Put l i text s j → take j s ≡ take i l ++ text
unfolding put
front l i text h p =
    let ends : i + length text ≡ length (take i l ++ text) = omega (arith, length-append (take i l) text, length-take-le i l h) in
    ap₂ take (p.1 ∙ ends) p.0 ∙ take-append_seam (take i l ++ text) (drop (i + length text) l)

module _ (opened : ℕ) (events told : List ℕ) where
  -- the heading, and what opening told
  pub begun : (l : List ℕ) {s t : List ℕ} {i j : ℕ} → (s ≡ put l 0 heading) × (i ≡ length heading) → Put s i (opened_line opened) t j
      → lines_behind opened events 0 (take j t) told ≡ written opened events told
  unfolding written
  begun l p q =
      let both = then l 0 heading (opened_line opened) (omega arith) (p.0, p.1 ∙ sym (zero-add (length heading))) q in
      ap (λ (text : List ℕ). lines_behind opened events 0 text told) (front l 0 (heading ++ opened_line opened) (omega arith) both)

  module _ (l : List ℕ) (at i : ℕ) (within : at ≤ length l) where
    -- the next answer
    pub one_more : {s : List ℕ} {j : ℕ} → i < length told → at + longest_line ≤ text_room
        → Put l at (told_line opened (i + 1) (kind_at events i) (get_or told i 0)) s j
        → lines_behind opened events (i + 1) (take j s) (drop (i + 1) told) ≡ lines_behind opened events i (take at l) (drop i told)
    unfolding lines_behind
    one_more more room p =
        let fits = le-leb (length (take at l) + longest_line) text_room (omega (arith, length-take-le at l within)) in
        rw (drop-cons told i 0 more, fits) (ap₂ (lines_behind opened events (i + 1)) (front l at _ within p) (ap (λ (k : ℕ). drop k told) (add-one i)))

    -- no room for one, and none left
    pub no_room : i < length told → text_room < at + longest_line → lines_behind opened events i (take at l) (drop i told) ≡ take at l
    unfolding lines_behind
    no_room more full =
        rw (drop-cons told i 0 more, lt-leb (length (take at l) + longest_line) text_room (omega (arith, length-take-le at l within))) refl

    pub all_told : length told ≤ i → lines_behind opened events i (take at l) (drop i told) ≡ take at l
    unfolding lines_behind
    all_told none = ap (lines_behind opened events i (take at l)) (drop_of_length-le told none)
