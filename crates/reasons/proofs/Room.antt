-- Lines in a buffer of any length: no explanation has more than 64, and where there is room for fewer the first are told. Assumes nothing.
use Prim.Native.Nat.{ℕ, zero, suc, ◌+◌, ◌*◌, ◌/◌, ◌≤◌, min}
use mathlib.Core.{Bool.{Bool, true, false, cond, not, ◌||◌, true≢false}, List.{List, [], ◌∷◌, ◌++◌}, Logic.◌≢◌, Path.{◌≡◌, refl, sym, ap, ◌∙◌}}
use native.{Mathlib.Nat.{min-zero, suc-min-suc, zero-add}, Mathlib.Omega.arith}
use lib.{Dec.eqb, ListN.{length, take, drop}, Seq.{take-nil, take_all, take-append-add, take-append-le, length-take-le}}
use Rattle.octets.specs.Octets.{put}
use Rattle.octets.proofs.ByteLaws.{put_none}
use Rattle.records.specs.Phone.{decode, joined}
use Rattle.records.proofs.Joined.{length_joined}
use Rattle.rules.specs.{Words.{◌⇒◌, first}, ImageRules.accepted, Codes.executable_known, Step.refusal, declared.Answer.Answer}
use Rattle.explanations.specs.Why.{Line, explanation}
use Rattle.explanations.proofs.Theorems.{image_lines}
use Rattle.std.specs.{Prelude.{Result, Ok, Err, is_ok}, Result.result_unwrap_or}
use Rattle.reasons.specs.Lines.{line_size, line_bytes, most_lines, with_lines, why_code, lines_of, why, Whole, Explained}

-- ---- the first lines of a run of them

take_lines : (k : ℕ) (ls : List Line) → take (k * line_size) (joined line_bytes ls) ≡ joined line_bytes (take k ls)
take_lines zero ls = refl
take_lines (suc k) [] = take-nil (suc k * line_size)
take_lines (suc k) (n ∷ ls) =
    let m : suc k * line_size ≡ length (line_bytes n) + k * line_size = omega arith in
    ap (λ m. take m (line_bytes n ++ joined line_bytes ls)) m
    ∙ take-append-add (line_bytes n) (joined line_bytes ls) (k * line_size)
    ∙ ap (λ l. line_bytes n ++ l) (take_lines k ls)

take_least : (ls : List Line) (k : ℕ) → take (min (length ls) k) ls ≡ take k ls
take_least [] k = take-nil (min 0 k) ∙ sym (take-nil k)
take_least (n ∷ ls) zero = ap (λ m. take m (n ∷ ls)) (min-zero (suc (length ls)))
take_least (n ∷ ls) (suc k) = ap (λ m. take m (n ∷ ls)) (suc-min-suc (length ls) k) ∙ ap (λ l. n ∷ l) (take_least ls k)

-- read back from a buffer that they were told in
take_told : (out : List ℕ) (ls : List Line) (k : ℕ) → k ≤ length ls → take (k * line_size) (with_lines out ls) ≡ joined line_bytes (take k ls)
unfolding put
take_told out ls k h =
    let n = length_joined line_bytes line_size (λ n. refl) ls in
    take-append-le (k * line_size) (joined line_bytes ls) (drop (0 + length (joined line_bytes ls)) out) (omega arith) ∙ take_lines k ls

-- as many bytes as v has in front of the others
put_first : (out v : List ℕ) (k : ℕ) → k ≡ length v → v ++ drop k out ≡ put out 0 v
unfolding put
put_first out v k e = ap (λ n. v ++ drop n out) (e ∙ sym (zero-add (length v)))

-- ---- what is asked for

module _ (l : List ℕ) (n : ℕ) where
  -- the three codes, and 1 where the image is not accepted, nowhere else
  pub code_cases : (P : ℕ → Type 0) → (accepted l ≢ true → P 1) → (accepted l ≡ true → P 3) → (accepted l ≡ true → P 0) → P (why_code l n)
  unfolding why_code first
  code_cases P broken unknown known = go (accepted l) (eqb n 0 || not (executable_known (decode l) n)) refl
    where
      go : (b u : Bool) → accepted l ≡ b → P (first ((not b ⇒ 1) ∷ (u ⇒ 3) ∷ []))
      go true true e = unknown e
      go true false e = known e
      go false u e = broken (λ h. true≢false (sym h ∙ e))

  abbrev lines_for : ℕ → List Line
  lines_for c = cond (eqb c 0) (explanation (decode l) n) []

  pub lines_few : length (lines_of l n) ≤ most_lines
  unfolding lines_of
  lines_few = code_cases (λ c. length (lines_for c) ≤ most_lines) (λ h. omega arith) (λ h. omega arith) (λ h. (image_lines l h n).1)

  pub lines_some : why_code l n ≡ 0 → 1 ≤ length (lines_of l n)
  unfolding lines_of
  lines_some =
      code_cases (λ c. c ≡ 0 → 1 ≤ length (lines_for c)) (λ h z. absurd (omega arith)) (λ h z. absurd (omega arith)) (λ h z. (image_lines l h n).0)

  -- a buffer that has room for 64 lines has room for every line
  pub explained_whole : (out : List ℕ) {r : Result ℕ Answer} {out' : List ℕ} → most_lines * line_size ≤ length out → Whole l n out r out'
      → Explained l n out r out'
  explained_whole out h w =
      let few = lines_few in
      let all = take_all (length out / line_size) (lines_of l n) (omega arith) in
      record { answer = w.answer; told = w.told ∙ ap (with_lines out) (sym all) }

  -- a refusal has no lines
  none_refused : {a : Answer} → Err a ≡ why l n → lines_of l n ≡ []
  unfolding why lines_of
  none_refused {a} e = go (eqb (why_code l n) 0) e
    where
      go : (b : Bool) → Err a ≡ cond b (Ok (length (lines_of l n))) (Err (refusal l (why_code l n))) → cond b (explanation (decode l) n) [] ≡ []
      go true e = absurd (true≢false (sym (ap is_ok e)))
      go false e = refl

  counted : {k : ℕ} → Ok k ≡ why l n → k ≡ length (lines_of l n)
  unfolding why
  counted {k} e = go (eqb (why_code l n) 0) e
    where
      go : (b : Bool) → Ok k ≡ cond b (Ok (length (lines_of l n))) (Err (refusal l (why_code l n))) → k ≡ length (lines_of l n)
      go true e = ap (λ r. result_unwrap_or r 0) e
      go false e = absurd (true≢false (ap is_ok e))

  -- any other gets what it has room for, out of one that has the room
  module _ (room : List ℕ) {r : Result ℕ Answer} {all : List ℕ} (w : Whole l n room r all) where
    pub told_few : {k : ℕ} → r ≡ Ok k → k ≤ most_lines
    told_few q = let few = lines_few in omega (arith, counted (sym q ∙ w.answer))

    pub explained_none : (out : List ℕ) {a : Answer} → r ≡ Err a → Explained l n out (Err a) out
    explained_none out q =
        let e = sym q ∙ w.answer in
        let lines = length out / line_size in
        record {
          answer = e;
          told = sym (put_none out 0) ∙ ap (with_lines out) (sym (take-nil lines) ∙ ap (take lines) (sym (none_refused e)));
        }

    pub explained_short : (out : List ℕ) {m k : ℕ} {some : List ℕ} → r ≡ Ok m → k ≡ min m (length out / line_size) → k * line_size ≤ length all
        → some ≡ take (k * line_size) all → Explained l n out (Ok m) (some ++ drop (k * line_size) out)
    explained_short out {m} {k} q e h p =
        let lines = length out / line_size in
        let long = counted (sym q ∙ w.answer) in
        let some : k ≡ min (length (lines_of l n)) lines = e ∙ ap (λ i. min i lines) long in
        record {
          answer = sym q ∙ w.answer;
          told =
              put_first out _ (k * line_size) (sym (ap length p ∙ length-take-le (k * line_size) all h))
              ∙ ap (put out 0) p
              ∙ ap (λ l. put out 0 (take (k * line_size) l)) w.told
              ∙ ap (put out 0) (take_told room (lines_of l n) k (omega arith))
              ∙ ap (with_lines out) (ap (λ i. take i (lines_of l n)) some ∙ take_least (lines_of l n) lines);
        }
