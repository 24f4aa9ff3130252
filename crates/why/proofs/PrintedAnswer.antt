-- All that is printed, by what is answered, and how long it is. Assumes nothing.
use Prim.Native.Nat.{ℕ, ◌*◌, ◌/◌, ◌≤◌}
use mathlib.Core.{Bool.cond, List.{List, [], ◌∷◌}, Logic.◌≢◌, Path.{◌≡◌, refl, sym, ap, ap₂, subst, ◌∙◌}}
use native.Mathlib.Omega.{arith}
use lib.{Dec.eqb, ListN.{length, take, length-append}, Seq.take_all}
use Rattle.std.specs.Prelude.{Result, Ok, Err}
use Rattle.octets.specs.Octets.{put}
use Rattle.rules.specs.{declared.Answer.Answer, Step.{refused, refused_at, refusal}}
use Rattle.explanations.specs.Why.{Line}
use Rattle.reasons.specs.Lines.{line_size, most_lines, with_lines, why_code, lines_of, why}
use Rattle.reasons.proofs.Room.{code_cases, lines_few}
use Rattle.stream.specs.Refusal.{image_refused}
use Rattle.stream.proofs.JoinedTexts.{refusal_small}
use Rattle.why.specs.SentenceText.{sentence, longest_sentence, page, lines_said, longest_page, executable_unknown, answer_text}
use Rattle.why.proofs.{Sentences.sentence_small, Pages.lines_back}

-- the same text under another name, at the start of a buffer
pub said_first : (l : List ℕ) {text named s : List ℕ} {r : ℕ} → named ≡ text → (s ≡ put l 0 text) × (r ≡ length text) → (s ≡ put l 0 named) × (r ≡ length named)
said_first l e p = (p.0 ∙ ap (put l 0) (sym e), p.1 ∙ ap length (sym e))

-- ---- by the answer

module _ (l : List ℕ) (n : ℕ) where
  -- the three answers, each with its code and its text
  answer_cases : (P : ℕ → Result ℕ Answer → List ℕ → Type 0) → P 1 (Err (refused_at l)) (image_refused (refused_at l).rule (refused_at l).offset)
      → P 3 (Err (refused 3)) executable_unknown → P 0 (Ok (length (lines_of l n))) (page 0 (lines_of l n)) → P (why_code l n) (why l n) (answer_text l n)
  unfolding why answer_text refusal
  answer_cases P broken unknown known =
      code_cases l n
      (λ c. P c (cond (eqb c 0) (Ok (length (lines_of l n))) (Err (refusal l c)))
      (cond (eqb c 1) (image_refused (refused_at l).rule (refused_at l).offset) (cond (eqb c 3) executable_unknown (page 0 (lines_of l n)))))
      (λ h. broken) (λ h. unknown) (λ h. known)

  -- what a text is where code c is answered by r
  abbrev pub Says : ℕ → Result ℕ Answer → List ℕ → Type 0
  Says c (Ok k) text = (c ≡ 0) × (k ≡ length (lines_of l n)) × (text ≡ page 0 (lines_of l n))
  Says c (Err a) text = (a.code ≡ c) × (a.code ≡ 1 → text ≡ image_refused a.rule a.offset) × (a.code ≢ 1 → text ≡ executable_unknown)

  answer_says : Says (why_code l n) (why l n) (answer_text l n)
  answer_says =
      answer_cases Says (refl, (λ z. refl), (λ z. absurd (z refl))) (refl, (λ z. absurd (omega arith)), (λ z. refl)) (refl, refl, refl)

  module _ {r : Result ℕ Answer} (e : r ≡ why l n) where
    pub says : {q : Result ℕ Answer} → r ≡ q → Says (why_code l n) q (answer_text l n)
    says o = subst (λ q. Says (why_code l n) q (answer_text l n)) (sym e ∙ o) answer_says

    pub lines_told : {k : ℕ} → r ≡ Ok k → k ≤ most_lines
    lines_told o = let few = lines_few l n in omega (arith, (says o).1)

    -- out had room for every line, and became told
    pub text_page : {k : ℕ} → r ≡ Ok k → (out : List ℕ) {told : List ℕ} → most_lines * line_size ≤ length out
        → told ≡ with_lines out (take (length out / line_size) (lines_of l n)) → answer_text l n ≡ page 0 (lines_said told k)
    text_page o out h t =
        let few = lines_few l n in
        let all = take_all (length out / line_size) (lines_of l n) (omega arith) in
        let s = says o in
        let back = ap₂ lines_said (t ∙ ap (with_lines out) all) s.1 ∙ lines_back out (lines_of l n) in
        s.2 ∙ ap (page 0) (sym back)

-- ---- how long

page_small : (above : ℕ) (ls : List Line) → length (page above ls) ≤ length ls * longest_sentence
unfolding page
page_small above [] = omega arith
page_small above (n ∷ ls) =
    let first = sentence_small above n in
    let rest = page_small n.id ls in
    omega (arith, first, rest, length-append (sentence above n) (page n.id ls))

pub answer_small : (l : List ℕ) (n : ℕ) → length (answer_text l n) ≤ longest_page
answer_small l n =
    let few = lines_few l n in
    answer_cases l n (λ c r t. length t ≤ longest_page) (omega (arith, refusal_small (refused_at l).rule (refused_at l).offset)) (omega arith)
    (omega (arith, page_small 0 (lines_of l n), few))
