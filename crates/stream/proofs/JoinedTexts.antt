-- Texts put one behind the other are one text, and how long they are at most. Assumes nothing.
use Prim.Native.Nat.{ℕ, ◌+◌, ◌≤◌}
use mathlib.Core.{List.{List, [], ◌∷◌, ◌++◌}, Path.{◌≡◌, sym, ap, ap₂, ◌∙◌}}
use native.{Mathlib.Nat.{add-zero, zero-add}, Mathlib.Omega.arith}
use lib.ListN.{length, length-append}
use Rattle.octets.specs.Octets.{put}
use Rattle.octets.proofs.ByteLaws.{put_none, length_put}
use Rattle.records.proofs.Puts.{put_next}
use Rattle.stream.specs.{Decimal.{decimal, column}, PrintedLines.{line, longest_line}, Refusal.{image_one, image_refused, longest_refusal}}
use Rattle.rules.specs.declared.Answer.{Answer}
use Rattle.stream.proofs.Texts.{decimal_small}

-- a text put at i makes l into s, and ends at j
abbrev pub Put : List ℕ → ℕ → List ℕ → List ℕ → ℕ → Type 0
Put l i text s j = (s ≡ put l i text) × (j ≡ i + length text)

pub then : (l : List ℕ) (i : ℕ) {s t : List ℕ} {j k : ℕ} (xs ys : List ℕ) → i ≤ length l → Put l i xs s j → Put s j ys t k → Put l i (xs ++ ys) t k
then l i xs ys h a b =
    let n = length-append xs ys in
    (b.0 ∙ ap₂ (λ (s : List ℕ) (j : ℕ). put s j ys) a.0 a.1 ∙ put_next l i xs ys h, omega (arith, a.1, b.1))

-- the same text under another name
pub said : (l : List ℕ) (i : ℕ) {text named s : List ℕ} {j : ℕ} → named ≡ text → Put l i text s j → Put l i named s j
said l i e p = (p.0 ∙ ap (put l i) (sym e), p.1 ∙ ap (λ (t : List ℕ). i + length t) (sym e))

-- nothing is put
pub nothing : (l : List ℕ) (i : ℕ) → Put l i [] l i
nothing l i = (sym (put_none l i), sym (add-zero i))

-- a text at the start of a buffer is within it
pub start_within : (l text : List ℕ) {s : List ℕ} {r : ℕ} → length text ≤ length l → (s ≡ put l 0 text) × (r ≡ length text) → r ≤ length s
start_within l text h e = let n = ap length e.0 ∙ length_put l 0 text (omega arith) in omega (arith, e.1)

-- ---- the line of a refused image

-- column by column
pub refusal_put : (l : List ℕ) (rule offset : ℕ) {p q r s : List ℕ} {i j k e : ℕ} → Put l 0 image_one p i → Put p i (column rule) q j
    → Put q j (column offset) r k → Put r k (10 ∷ []) s e → (s ≡ put l 0 (image_refused rule offset)) × (e ≡ length (image_refused rule offset))
unfolding image_refused
refusal_put l rule offset one ruled placed ended =
    let to-rule = then l 0 image_one (column rule) (omega arith) one ruled in
    let to-offset = then l 0 (image_one ++ column rule) (column offset) (omega arith) to-rule placed in
    let whole = then l 0 (image_one ++ column rule ++ column offset) (10 ∷ []) (omega arith) to-offset ended in
    (whole.0, whole.1 ∙ zero-add _)

pub refusal_small : (rule offset : ℕ) → length (image_refused rule offset) ≤ longest_refusal
unfolding image_refused
refusal_small rule offset =
    let ruled = decimal_small rule in
    let placed = decimal_small offset in
    simp length-append (omega arith)

pub refusal_ends : (rule offset : ℕ) {r : ℕ} → r ≡ length (image_refused rule offset) → r ≤ longest_refusal
refusal_ends rule offset e = let h = refusal_small rule offset in omega arith

-- ---- the line of an event

-- a line, column by column
module _ (l : List ℕ) (at : ℕ) (room : at ≤ length l) (n kind : ℕ) (a : Answer) where
  pub line_put : {p q r s t u : List ℕ} {i j k m o e : ℕ} → Put l at (decimal n) p i → Put p i (column kind) q j → Put q j (column a.code) r k
      → Put r k (column a.domain) s m → Put s m (column a.links) t o → Put t o (10 ∷ []) u e → Put l at (line n kind a) u e
  unfolding line
  line_put number kinded coded placed linked ended =
      let to-kind = then l at (decimal n) (column kind) room number kinded in
      let to-code = then l at (decimal n ++ column kind) (column a.code) room to-kind coded in
      let to-domain = then l at (decimal n ++ column kind ++ column a.code) (column a.domain) room to-code placed in
      let to-links = then l at (decimal n ++ column kind ++ column a.code ++ column a.domain) (column a.links) room to-domain linked in
      then l at (decimal n ++ column kind ++ column a.code ++ column a.domain ++ column a.links) (10 ∷ []) room to-links ended

-- a line fits where the longest does
pub line_small : (n kind : ℕ) (a : Answer) → length (line n kind a) ≤ longest_line
unfolding line
line_small n kind a =
    let number = decimal_small n in
    let kinded = decimal_small kind in
    let coded = decimal_small a.code in
    let placed = decimal_small a.domain in
    let linked = decimal_small a.links in
    simp length-append (omega arith)

-- where it ends at the latest
pub line_ends : (n kind : ℕ) (a : Answer) (at : ℕ) {r : ℕ} → r ≡ at + length (line n kind a) → r ≤ at + longest_line
line_ends n kind a at e = let h = line_small n kind a in omega arith
