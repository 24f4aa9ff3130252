-- Laws of bytes put in place and of numbers read after writing, each over the width. Assumes nothing.
use mathlib.Core.{Path.{◌≡◌, refl, sym, ap, ap₂, ◌∙◌, subst}, Bool.{Bool, true, false}, List.{List, [], ◌∷◌, ◌++◌, append_assoc, append-nil}}
use Prim.Native.Nat.{ℕ, zero, suc, ◌+◌, ◌-◌, ◌*◌, ◌/◌, ◌%◌, ◌≤◌, ◌<◌}
use native.{Mathlib.Nat.{add-zero, zero-add, add_assoc}, Mathlib.Numerals.add-one, Mathlib.Omega.arith}
use borrow.Author.Tests.{eq-eqb, ne_eqb, eqb-true, eqb-false}
use lib.Dec.{eqb}
use lib.ListN.{length, get_or, take, drop, set, length-append, length-drop, get_or-append, take-append-drop}
use lib.Seq.{sets, sets-eq, get_or-append-add, get_or-drop, get_or-take, length-take-le, set_at, drop-cons, drop-drop, take-suc}
use borrow.Rule.Slice.PartMut.{put_mid}
use Rattle.octets.specs.Octets.{be, bytes, put}

-- ---- a run put in place

pub put_none : (l : List ℕ) (i : ℕ) → put l i [] ≡ l
unfolding put
put_none l i = rw add-zero (rw append-nil (take-append-drop i l))

pub length_put : (l : List ℕ) (i : ℕ) (vs : List ℕ) → i + length vs ≤ length l → length (put l i vs) ≡ length l
unfolding put
length_put l i vs h =
    let t : length (take i l) ≡ i = length-take-le i l (omega arith) in
    simp (length-append, length-drop) (omega arith)

-- what `s[i..i + k]` holds, put back in place
pub put_part : (l : List ℕ) (i k : ℕ) {m vs : List ℕ} → m ≡ vs → k ≡ length vs → put_mid i k l m ≡ put l i vs
unfolding put
put_part l i k {m} {vs} e n =
    ap₂ (λ (x y : List ℕ). take i l ++ (x ++ y)) e (drop-drop k i l ∙ ap (λ (j : ℕ). drop (i + j) l) n)
    ∙ sym (append_assoc (take i l) vs (drop (i + length vs) l))

-- stores one after the other are a run put in place
pub sets_put : (l : List ℕ) (i : ℕ) (vs : List ℕ) → i + length vs ≤ length l → sets l i vs ≡ put l i vs
unfolding put
sets_put l i vs h = sets-eq vs l i h

-- one byte more at the run's end
pub put_more : (l : List ℕ) (i : ℕ) (vs : List ℕ) (a : ℕ) → i + length vs < length l → set (put l i vs) (i + length vs) a ≡ put l i (vs ++ (a ∷ []))
unfolding put
put_more l i vs a h =
    let t : length (take i l ++ vs) ≡ i + length vs = simp length-append (omega (arith, length-take-le i l (omega arith))) in
    let e : i + length (vs ++ (a ∷ [])) ≡ suc (i + length vs) = simp length-append (omega arith) in
    rw (drop-cons l (i + length vs) 0, e)
    (set_at (take i l ++ vs) (get_or l (i + length vs) 0) (drop (suc (i + length vs)) l) a (i + length vs) t ∙ simp append_assoc)

-- ---- what stands in the run, and what stands outside

get_or_put_in : (l : List ℕ) (i : ℕ) (vs : List ℕ) (k : ℕ) → i + length vs ≤ length l → k < length vs → get_or (put l i vs) (i + k) 0 ≡ get_or vs k 0
unfolding put
get_or_put_in l i vs k h hk =
    let t : length (take i l) ≡ i = length-take-le i l (omega arith) in
    rw append_assoc
    (subst (λ (n : ℕ). get_or (take i l ++ (vs ++ drop (i + length vs) l)) (n + k) 0 ≡ get_or vs k 0) t
    (get_or-append-add (take i l) (vs ++ drop (i + length vs) l) k 0 ∙ get_or-append vs (drop (i + length vs) l) 0 k hk))

get_or_put_before : (l : List ℕ) (i : ℕ) (vs : List ℕ) (j : ℕ) → i + length vs ≤ length l → j < i → get_or (put l i vs) j 0 ≡ get_or l j 0
unfolding put
get_or_put_before l i vs j h hj =
    let t : length (take i l) ≡ i = length-take-le i l (omega arith) in
    rw append_assoc (get_or-append (take i l) (vs ++ drop (i + length vs) l) 0 j (omega arith) ∙ get_or-take i l j 0 hj)

pub get_or_put_after : (l : List ℕ) (i : ℕ) (vs : List ℕ) (j : ℕ) → i + length vs ≤ length l → i + length vs ≤ j → get_or (put l i vs) j 0 ≡ get_or l j 0
unfolding put
get_or_put_after l i vs j h hj =
    let t : length (take i l ++ vs) ≡ i + length vs = simp length-append (omega (arith, length-take-le i l (omega arith))) in
    let e : length (take i l ++ vs) + (j - (i + length vs)) ≡ j = omega arith in
    let e' : (i + length vs) + (j - (i + length vs)) ≡ j = omega arith in
    subst (λ (n : ℕ). get_or ((take i l ++ vs) ++ drop (i + length vs) l) n 0 ≡ get_or l j 0) e
    (get_or-append-add (take i l ++ vs) (drop (i + length vs) l) (j - (i + length vs)) 0
    ∙ get_or-drop (i + length vs) l (j - (i + length vs)) 0 ∙ ap (λ (n : ℕ). get_or l n 0) e')

-- ---- numbers, over the width

-- a number goes by its own bytes alone
be_same : (w : ℕ) (l m : List ℕ) (i j : ℕ) → ((k : ℕ) → k < w → get_or l (i + k) 0 ≡ get_or m (j + k) 0) → be w l i ≡ be w m j
unfolding be
be_same zero l m i j h = refl
be_same (suc zero) l m i j h = ap (λ (n : ℕ). get_or l n 0) (sym (add-zero i)) ∙ h 0 (omega arith) ∙ ap (λ (n : ℕ). get_or m n 0) (add-zero j)
be_same (suc (suc w)) l m i j h =
    ap₂ (λ (x y : ℕ). x * 256 + y) (be_same (suc w) l m i j (λ k hk. h k (omega arith))) (h (suc w) (omega arith))

pub be_skip : (w : ℕ) (xs ys : List ℕ) (k : ℕ) → be w (xs ++ ys) (length xs + k) ≡ be w ys k
be_skip w xs ys k =
    be_same w (xs ++ ys) ys (length xs + k) k
    (λ j hj. ap (λ (n : ℕ). get_or (xs ++ ys) n 0) (add_assoc (length xs) k j) ∙ get_or-append-add xs ys (k + j) 0)

length_bytes : (w v : ℕ) → length (bytes w v) ≡ w
length_bytes zero v = refl
length_bytes (suc zero) v = refl
length_bytes (suc (suc w)) v = length-append (bytes (suc w) (v / 256)) (v % 256 ∷ []) ∙ ap (λ (n : ℕ). n + 1) (length_bytes (suc w) (v / 256)) ∙ add-one (suc w)

pub join : (v : ℕ) → v / 256 * 256 + v % 256 ≡ v
join v = omega arith

be_bytes : (w v : ℕ) (ys : List ℕ) → be (suc w) (bytes (suc w) v ++ ys) 0 ≡ v
unfolding be
be_bytes zero v ys = refl
be_bytes (suc w) v ys =
    let b = bytes (suc w) (v / 256) in
    let tail : List ℕ = v % 256 ∷ ys in
    let a : (b ++ (v % 256 ∷ [])) ++ ys ≡ b ++ tail = append_assoc b (v % 256 ∷ []) ys in
    let n : 0 + suc w ≡ length b + 0 = omega (arith, length_bytes (suc w) (v / 256)) in
    ap₂ (λ (x y : ℕ). x * 256 + y)
    (ap (λ (l : List ℕ). be (suc w) l 0) a ∙ be_bytes w (v / 256) tail)
    (ap₂ (λ (l : List ℕ) (k : ℕ). get_or l k 0) a n ∙ get_or-append-add b tail 0 0)
    ∙ join v

-- reading what was written, and reading elsewhere
pub be_put_same : (w : ℕ) (l : List ℕ) (i v : ℕ) → i + suc w ≤ length l → be (suc w) (put l i (bytes (suc w) v)) i ≡ v
be_put_same w l i v h =
    let n = length_bytes (suc w) v in
    be_same (suc w) (put l i (bytes (suc w) v)) (bytes (suc w) v ++ []) i 0
    (λ k hk. get_or_put_in l i (bytes (suc w) v) k (omega arith) (omega arith)
    ∙ ap₂ (λ (x : List ℕ) (m : ℕ). get_or x m 0) (sym (append-nil (bytes (suc w) v))) (sym (zero-add k)))
    ∙ be_bytes w v []

pub be_put_before : (w : ℕ) (l : List ℕ) (i j : ℕ) (vs : List ℕ) → j + length vs ≤ length l → i + w ≤ j → be w (put l j vs) i ≡ be w l i
be_put_before w l i j vs h d = be_same w (put l j vs) l i i (λ k hk. get_or_put_before l j vs (i + k) h (omega arith))

pub be_put_after : (w : ℕ) (l : List ℕ) (i j : ℕ) (vs : List ℕ) → j + length vs ≤ length l → j + length vs ≤ i → be w (put l j vs) i ≡ be w l i
be_put_after w l i j vs h d = be_same w (put l j vs) l i i (λ k hk. get_or_put_after l j vs (i + k) h (omega arith))

-- ---- back to the bytes

-- every element is a byte
abbrev pub Bytes : List ℕ → Type 0
Bytes l = (i : ℕ) → get_or l i 0 < 256

pub high : (x b : ℕ) → b < 256 → (x * 256 + b) / 256 ≡ x
high x b h = omega arith

pub low : (x b : ℕ) → b < 256 → (x * 256 + b) % 256 ≡ b
low x b h = omega arith

pub bytes_be : (w : ℕ) (l : List ℕ) → Bytes l → (i : ℕ) → i + w ≤ length l → bytes w (be w l i) ≡ take w (drop i l)
unfolding be
bytes_be zero l b i h = refl
bytes_be (suc zero) l b i h = rw (drop-cons l i 0 (omega arith)) refl
bytes_be (suc (suc w)) l b i h =
    let x = get_or l (i + suc w) 0 in
    let n : suc w < length (drop i l) = omega (arith, length-drop i l) in
    ap₂ (λ (p : List ℕ) (q : ℕ). p ++ (q ∷ []))
    (ap (bytes (suc w)) (high (be (suc w) l i) x (b (i + suc w))) ∙ bytes_be (suc w) l b i (omega arith))
    (low (be (suc w) l i) x (b (i + suc w)) ∙ sym (get_or-drop i l (suc w) 0))
    ∙ sym (take-suc (drop i l) (suc w) 0 n)

-- two tests of equal numbers that say the same
same_test : (a b k n : ℕ) → (a ≡ b → k ≡ n) → (k ≡ n → a ≡ b) → eqb a b ≡ eqb k n
same_test a b k n f g = by (eqb a b) refl
  where
    by : (t : Bool) → eqb a b ≡ t → t ≡ eqb k n
    by true e = sym (eq-eqb k n (f (eqb-true a b e)))
    by false e = sym (ne_eqb k n (λ q. eqb-false a b e (g q)))

-- two bytes whose low byte is not that of n do not make n
pub low_differs : (l : List ℕ) (i n b : ℕ) → b ≡ be 1 l (i + 1) → b < 256 → (b ≡ n % 256 → ⊥) → false ≡ eqb (be 2 l i) n
unfolding be
low_differs l i n b e h d = sym (ne_eqb (be 2 l i) n (λ q. d (omega arith)))

-- two bytes make n where they are its own: the high one, once the low one is, and the low one, where it is not
module _ (l : List ℕ) (i n : ℕ) {bs : List ℕ} (e : bs ≡ n / 256 % 256 ∷ n % 256 ∷ []) where
  pub high_tells : get_or l (i + 1) 0 ≡ get_or bs 1 0 → get_or l (i + 1) 0 < 256 → n < 65536 → eqb (get_or l i 0) (get_or bs 0 0) ≡ eqb (be 2 l i) n
  unfolding be
  high_tells h b s =
      let d = ap (λ m. get_or m 0 0) e in
      let f = ap (λ m. get_or m 1 0) e in
      same_test _ _ _ _ (λ q. omega arith) (λ q. omega arith)

  pub low_tells : ¬ (get_or l (i + 1) 0 ≡ get_or bs 1 0) → get_or l (i + 1) 0 < 256 → eqb (get_or l (i + 1) 0) (get_or bs 1 0) ≡ eqb (be 2 l i) n
  unfolding be
  low_tells h b =
      let f = ap (λ m. get_or m 1 0) e in
      let one : get_or l (i + 1) 0 ≡ be 1 l (i + 1) = omega arith in
      ne_eqb _ _ h ∙ low_differs l i n _ one b (λ q. h (q ∙ sym f))
