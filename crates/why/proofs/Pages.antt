-- A page: line by line, as the bytes of a buffer say them. Assumes nothing.
use Prim.Native.Nat.{ℕ, zero, suc, ◌+◌, ◌*◌}
use mathlib.Core.{List.{List, [], ◌∷◌, ◌++◌, append_assoc, append-nil}, Path.{◌≡◌, refl, sym, ap, ap₂, subst, ◌∙◌}}
use native.Mathlib.Omega.{arith}
use lib.ListN.{length, drop}
use Rattle.octets.specs.Octets.{be, be8, be16, put}
use Rattle.octets.proofs.ByteLaws.{join, be_skip}
use Rattle.records.specs.Phone.{joined}
use Rattle.explanations.specs.Why.{Line, line}
use Rattle.reasons.specs.Lines.{line_size, line_bytes, with_lines}
use Rattle.stream.proofs.JoinedTexts.{Put, then, said, nothing}
use Rattle.why.specs.SentenceText.{sentence, page, line_at, lines_said}

-- the id of the last line, or that above the first where there is none
abbrev pub last_id : ℕ → List Line → ℕ
last_id above [] = above
last_id above (n ∷ ls) = last_id n.id ls

-- ---- one line more

last_more : (above : ℕ) (ls : List Line) (n : Line) → last_id above (ls ++ (n ∷ [])) ≡ n.id
last_more above [] n = refl
last_more above (m ∷ ls) n = last_more m.id ls n

page_more : (above : ℕ) (ls : List Line) (n : Line) → page above (ls ++ (n ∷ [])) ≡ page above ls ++ sentence (last_id above ls) n
unfolding page
page_more above [] n = append-nil (sentence above n)
page_more above (m ∷ ls) n =
    ap (λ (t : List ℕ). sentence above m ++ t) (page_more m.id ls n)
    ∙ sym (append_assoc (sentence above m) (page m.id ls) (sentence (last_id m.id ls) n))

-- the page of the first i lines stands, and the sentence of the next is put behind it
pub page_next : (l lines : List ℕ) (i : ℕ) {s t : List ℕ} {at end above what id : ℕ}
    → Put l 0 (page 0 (lines_said lines i)) s at → above ≡ last_id 0 (lines_said lines i)
    → what ≡ be8 lines (i * line_size) → id ≡ be16 lines (i * line_size + 1)
    → Put s at (sentence above (line what id)) t end
    → Put l 0 (page 0 (lines_said lines (i + 1))) t end × (id ≡ last_id 0 (lines_said lines (i + 1)))
unfolding lines_said
page_next l lines i {t = t} {end = end} {id = id} p a w n q =
    let ls = lines_said lines i in
    let m = line_at lines i in
    let next : suc i ≡ i + 1 = omega arith in
    let told : sentence (last_id 0 ls) m ≡ _ = ap₂ sentence (sym a) (ap₂ line (sym w) (sym n)) in
    let both = then l 0 (page 0 ls) (sentence (last_id 0 ls) m) (omega arith) p (said _ _ told q) in
    subst (λ (k : ℕ). Put l 0 (page 0 (lines_said lines k)) t end × (id ≡ last_id 0 (lines_said lines k))) next
    (said l 0 (page_more 0 ls m) both, n ∙ sym (last_more 0 ls m))

pub page_none : (l lines : List ℕ) → Put l 0 (page 0 (lines_said lines 0)) l 0
unfolding page lines_said
page_none l lines = nothing l 0

-- ---- what was told is what the bytes say

first_said : (n : Line) (l : List ℕ) → line_at (line_bytes n ++ l) 0 ≡ n
unfolding be
first_said n l = ap (line n.what) (join n.id)

line_behind : (n : Line) (l : List ℕ) (k : ℕ) → line_at (line_bytes n ++ l) (suc k) ≡ line_at l k
line_behind n l k =
    let e : suc k * line_size ≡ length (line_bytes n) + k * line_size = omega arith in
    let f : suc k * line_size + 1 ≡ length (line_bytes n) + (k * line_size + 1) = omega arith in
    ap₂ line
    (ap (be 1 (line_bytes n ++ l)) e ∙ be_skip 1 (line_bytes n) l (k * line_size))
    (ap (be 2 (line_bytes n ++ l)) f ∙ be_skip 2 (line_bytes n) l (k * line_size + 1))

said_behind : (n : Line) (l : List ℕ) (k : ℕ) → lines_said (line_bytes n ++ l) (suc k) ≡ n ∷ lines_said l k
unfolding lines_said
said_behind n l zero = ap (λ (m : Line). m ∷ []) (first_said n l)
said_behind n l (suc k) = ap₂ (λ (ls : List Line) (m : Line). ls ++ (m ∷ [])) (said_behind n l k) (line_behind n l k)

said_joined : (ls : List Line) (rest : List ℕ) → lines_said (joined line_bytes ls ++ rest) (length ls) ≡ ls
unfolding lines_said
said_joined [] rest = refl
said_joined (n ∷ ls) rest = said_behind n (joined line_bytes ls ++ rest) (length ls) ∙ ap (λ (m : List Line). n ∷ m) (said_joined ls rest)

pub lines_back : (out : List ℕ) (ls : List Line) → lines_said (with_lines out ls) (length ls) ≡ ls
unfolding put
lines_back out ls = said_joined ls (drop (0 + length (joined line_bytes ls)) out)
