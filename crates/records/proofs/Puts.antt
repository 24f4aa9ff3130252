-- Laws of runs of bytes put in place: within one part of a longer list, and one run after the other. Assumes nothing.
use mathlib.Core.{Path.{◌≡◌, sym, ap, ap₂, ◌∙◌}, List.{List, [], ◌∷◌, ◌++◌, append_assoc}}
use Prim.Native.Nat.{ℕ, ◌+◌, ◌≤◌}
use native.{Mathlib.Nat.{add-zero, zero-add, add_assoc}, Mathlib.Omega.arith}
use lib.{ListN.{length, take, drop, length-append}, Seq.{length-take-le, take-append-add, drop-append-add, take-append-le, drop-append-le, drop-drop}}
use Rattle.octets.specs.Octets.{put}
use Rattle.octets.proofs.ByteLaws.{put_none, length_put}
use Rattle.records.specs.Phone.{joined}

-- ---- within one part

pub put_right : (xs ys : List ℕ) (i : ℕ) (vs : List ℕ) → put (xs ++ ys) (length xs + i) vs ≡ xs ++ put ys i vs
unfolding put
put_right xs ys i vs =
    rw (take-append-add xs ys i, add_assoc (length xs) i (length vs), drop-append-add xs ys (i + length vs)) (simp append_assoc)

pub put_left : (xs ys : List ℕ) (i : ℕ) (vs : List ℕ) → i + length vs ≤ length xs → put (xs ++ ys) i vs ≡ put xs i vs ++ ys
unfolding put
put_left xs ys i vs h =
    let k : i ≤ length xs = omega arith in
    rw (take-append-le i xs ys k, drop-append-le (i + length vs) xs ys h) (simp append_assoc)

-- ---- one after the other

-- two runs side by side are one
pub put_next : (l : List ℕ) (i : ℕ) (xs ys : List ℕ) → i ≤ length l → put (put l i xs) (i + length xs) ys ≡ put l i (xs ++ ys)
unfolding put
put_next l i xs ys h =
    let front = take i l ++ xs in
    let n : i + length xs ≡ length front + 0 = simp length-append (omega (arith, length-take-le i l h)) in
    let e : i + length xs + length ys ≡ i + length (xs ++ ys) = simp length-append (omega arith) in
    ap (λ (k : ℕ). put (front ++ drop (i + length xs) l) k ys) n
    ∙ put_right front (drop (i + length xs) l) 0 ys
    ∙ rw (drop-drop, zero-add, ← e) (simp append_assoc)

-- the runs vs are put side by side, the first at i + k, and make l into t
pub data Written (i : ℕ) : ℕ → List ℕ → List (List ℕ) → List ℕ → Type 0 where
  done : {k : ℕ} {l : List ℕ} → Written i k l [] l
  more : {k : ℕ} {l s t v : List ℕ} {vs : List (List ℕ)} → s ≡ put l (i + k) v → Written i (k + length v) s vs t → Written i k l (v ∷ vs) t

pub written_from : {i k : ℕ} {l t : List ℕ} {vs : List (List ℕ)} → Written i k l vs t → i + k + length (joined (λ v. v) vs) ≤ length l
    → t ≡ put l (i + k) (joined (λ v. v) vs)
written_from {i} {k} {l} done h = sym (put_none l (i + k))
written_from {i} {k} {l} (more {v = v} {vs = vs} e w) h =
    let rest = joined (λ (u : List ℕ). u) vs in
    let a = length-append v rest in
    let n = ap length e ∙ length_put l (i + k) v (omega arith) in
    written_from w (omega arith)
    ∙ ap₂ (λ (s : List ℕ) (j : ℕ). put s j rest) e (sym (add_assoc i k (length v)))
    ∙ put_next l (i + k) v rest (omega arith)

pub written : {i : ℕ} {l t : List ℕ} {vs : List (List ℕ)} → Written i 0 l vs t → i + length (joined (λ v. v) vs) ≤ length l → t ≡ put l i (joined (λ v. v) vs)
written {i} {l} {vs = vs} w h = written_from w (omega arith) ∙ ap (λ (n : ℕ). put l n (joined (λ v. v) vs)) (add-zero i)
