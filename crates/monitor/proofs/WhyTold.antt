-- An answer about an executable: what the number and the lines tell. Assumes nothing.
use Prim.Native.Nat.{ℕ, ◌+◌, ◌*◌, ◌/◌, ◌%◌, ◌≤◌, ◌<◌, min}
use mathlib.Core.{Bool.{Bool, true, false, cond}, List.{List, [], ◌++◌}, Logic.◌≢◌, Path.{◌≡◌, refl, sym, ap, subst, ◌∙◌}}
use native.{Mathlib.Nat.{add-zero, zero-add}, Mathlib.Omega.arith}
use borrow.Author.Tests.{eq-eqb, ne_eqb}
use lib.{Dec.{eqb, eqb→eq}, ListN.{length, get_or, take, drop, length-take}, Seq.{take-nil, take_all, get_or-append-add, get_or-take}}
use Rattle.octets.specs.Octets.{put}
use Rattle.octets.proofs.ByteLaws.{put_none, get_or_put_after}
use Rattle.records.specs.Phone.{decode, joined}
use Rattle.records.proofs.Joined.{length_joined, read_joined}
use Rattle.rules.specs.{declared.Answer.Answer, ImageRules.{accepted, «open»}, Faults.{fault, fault_offset}, Step.{opened, refusal}}
use Rattle.laws.proofs.Tests.{neqb→ne, by_test}
use Rattle.laws.proofs.Where.{accepted_no_fault, rule_known, offset_small}
use Rattle.opening.proofs.Offsets.{opened_told}
use Rattle.explanations.specs.Why.{Line, line, explanation}
use Rattle.std.specs.Prelude.{Result, Ok, Err, IfOk}
use Rattle.reasons.specs.{Lines.{line_size, line_bytes, most_lines, with_lines, why_code, lines_of, why, Explained}}
use Rattle.reasons.proofs.Room.{code_cases, lines_few}
use Rattle.monitor.specs.Told.{packed, told_code, told_rule, told_offset, why_packed, told_lines, line_from, line_at, Asked}
use Rattle.monitor.proofs.Answers.{open_one}

-- ---- the code that tells it

-- what `pack_count` asks
pub few_told : (l : List ℕ) (n : ℕ) (out : List ℕ) {r : Result ℕ Answer} {out' : List ℕ} → Explained l n out r out' → IfOk r (λ k. k < 65536)
unfolding why
few_told l n out {r} x = subst (λ r. IfOk r (λ k. k < 65536)) (sym x.answer) (go (eqb (why_code l n) 0))
  where
    go : (b : Bool) → IfOk (cond b (Ok (length (lines_of l n))) (Err (refusal l (why_code l n)))) (λ k. k < 65536)
    go true = let few = lines_few l n in omega arith
    go false = tt

pub asked : (l : List ℕ) (n : ℕ) (out : List ℕ) {w : Result ℕ Answer} {r : ℕ} {out' : List ℕ} → Explained l n out w out' → r ≡ why_packed w
    → Asked l n out r out'
asked l n out x q = record { answer = q ∙ ap why_packed x.answer; told = x.told }

-- ---- the number

module _ (l : List ℕ) (n : ℕ) where
  -- an image of which a question is answered breaks no rule
  unbroken : why_code l n ≡ 0 → ((fault l).rule ≡ 0) × (fault_offset l ≡ 0)
  unbroken =
      code_cases l n (λ c. c ≡ 0 → ((fault l).rule ≡ 0) × (fault_offset l ≡ 0))
      (λ h z. absurd (omega arith)) (λ h z. absurd (omega arith)) (λ h z. rw (accepted_no_fault l h) (refl, refl))

  refused_so : refusal l (why_code l n) ≡ record { code = why_code l n; domain = 0; links = 0; rule = (fault l).rule; offset = fault_offset l }
  unfolding refusal
  refused_so =
      code_cases l n (λ c. refusal l c ≡ record { code = c; domain = 0; links = 0; rule = (fault l).rule; offset = fault_offset l })
      (λ h. refl) (λ h. rw (accepted_no_fault l h) refl) (λ h. rw (accepted_no_fault l h) refl)

  none_refused : why_code l n ≢ 0 → length (lines_of l n) ≡ 0
  unfolding lines_of
  none_refused h = rw (ne_eqb (why_code l n) 0 h)

  -- rule and offset are those of opening, whatever the code
  pub why_told : why_packed (why l n) ≡ ((fault_offset l * 256 + (fault l).rule) * 256 + why_code l n) * 65536 + length (lines_of l n)
  unfolding why
  why_told =
      by_test (eqb (why_code l n) 0)
      (λ h. let z = eqb→eq (why_code l n) 0 h in
      let s = unbroken z in
      ap why_packed (ap packed_if (eq-eqb _ 0 z)) ∙ omega (arith, s.0, s.1))
      (λ h. let m = neqb→ne (why_code l n) 0 h in
      let none = none_refused m in
      ap why_packed (ap packed_if (ne_eqb _ 0 m)) ∙ ap (λ a. why_packed (Err a)) refused_so ∙ omega arith)
    where
      packed_if : Bool → Result ℕ Answer
      packed_if b = cond b (Ok (length (lines_of l n))) (Err (refusal l (why_code l n)))

  code_small : why_code l n ≤ 3
  code_small = code_cases l n (λ c. c ≤ 3) (λ h. omega arith) (λ h. omega arith) (λ h. omega arith)

  pub why_unpacked : let m = why_packed (why l n) in
      (told_lines m ≡ length (lines_of l n)) × (told_code m ≡ why_code l n) × (told_rule m ≡ (fault l).rule) × (told_offset m ≡ fault_offset l)
  why_unpacked =
      let k = lines_few l n in
      let c = code_small in
      let r : (fault l).rule ≤ 8 = rule_known l in
      let o : fault_offset l < 65536 = offset_small l in
      let e = why_told in
      (ap told_lines e ∙ omega arith, ap told_code e ∙ omega arith, ap told_rule e ∙ omega arith, ap told_offset e ∙ omega arith)

  -- ---- the lines

  pub lines_granted : why_code l n ≡ 0 → lines_of l n ≡ explanation (decode l) n
  unfolding lines_of
  lines_granted z = rw (eq-eqb (why_code l n) 0 z)

  pub lines_refused : why_code l n ≢ 0 → lines_of l n ≡ []
  unfolding lines_of
  lines_refused h = rw (ne_eqb (why_code l n) 0 h)

  -- ---- an image that is not accepted

  code_broken : accepted l ≢ true → why_code l n ≡ 1
  code_broken = code_cases l n (λ c. accepted l ≢ true → c ≡ 1) (λ h n. refl) (λ h n. absurd (n h)) (λ h n. absurd (n h))

  pub why_opened : accepted l ≢ true → why_packed (why l n) ≡ packed (opened l)
  why_opened h =
      let c = code_broken h in
      let z : length (lines_of l n) ≡ 0 = ap length (lines_refused (λ e. omega arith)) in
      let o : «open» l ≡ 1 = open_one l h in
      why_told ∙ omega arith ∙ sym (ap packed (opened_told l))

-- ---- a buffer of lines

line_there : (xs ys : List ℕ) (n : Line) → line_from (xs ++ (line_bytes n ++ ys)) (length xs) ≡ n
line_there xs ys n =
    let l = xs ++ (line_bytes n ++ ys) in
    let at : (k : ℕ) → get_or l (length xs + k) 0 ≡ get_or (line_bytes n ++ ys) k 0 = λ k. get_or-append-add xs (line_bytes n ++ ys) k 0 in
    let two : n.id / 256 * 256 + n.id % 256 ≡ n.id = omega arith in
    rw (ap (λ k. get_or l k 0) (sym (add-zero (length xs))) ∙ at 0, at 1, at 2, two) refl

nth_line : (out : List ℕ) (ls : List Line) (i : ℕ) → i < length ls → line_at (with_lines out ls) i ≡ get_or ls i (line 0 0)
unfolding put
nth_line out ls i h =
    let post = drop (0 + length (joined line_bytes ls)) out in
    ap (line_from (joined line_bytes ls ++ post)) (sym (zero-add (i * line_size)))
    ∙ read_joined line_bytes line_size (λ n. refl) [] ls i h line_from line_there post (line 0 0)

-- of ls, in a buffer out, those that it has room for
module _ (out : List ℕ) (ls : List Line) where
  abbrev some : List Line
  some = take (length out / line_size) ls

  length_some : length some ≡ min (length out / line_size) (length ls)
  length_some = length-take (length out / line_size) ls

  pub all_told : length ls ≤ most_lines → most_lines * line_size ≤ length out → with_lines out some ≡ with_lines out ls
  all_told h room = ap (with_lines out) (take_all (length out / line_size) ls (omega arith))

  pub none_told : ls ≡ [] → with_lines out some ≡ out
  none_told e = ap (with_lines out) (ap (take (length out / line_size)) e ∙ take-nil (length out / line_size)) ∙ put_none out 0

  pub line_read : (i : ℕ) → i < length ls → i * line_size + line_size ≤ length out → line_at (with_lines out some) i ≡ get_or ls i (line 0 0)
  line_read i h room =
      let k = length_some in
      nth_line out some i (omega arith) ∙ get_or-take (length out / line_size) ls i (line 0 0) (omega arith)

  pub line_behind : (k : ℕ) → min (length ls) (length out / line_size) * line_size ≤ k → get_or (with_lines out some) k 0 ≡ get_or out k 0
  line_behind k h =
      let m = length_some in
      let n = length_joined line_bytes line_size (λ n. refl) some in
      get_or_put_after out 0 (joined line_bytes some) k (omega arith) (omega arith)
