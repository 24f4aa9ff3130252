-- Laws of tabulated lists, and of records of one size that stand one after the other, over any record. Assumes nothing.
use mathlib.Core.{Path.{◌≡◌, refl, sym, ap, ap₂, ◌∙◌}, List.{List, [], ◌∷◌, ◌++◌, append_assoc}}
use Prim.Native.Nat.{ℕ, zero, suc, ◌+◌, ◌*◌, ◌≤◌, ◌<◌}
use native.{Mathlib.Nat.{add-zero, add_comm, suc-mul, zero-mul, not-suc-le-zero, le_of_suc-le-suc}, Mathlib.Omega.arith}
use lib.{ListN.{length, get_or, take, drop, set, length-append}, Seq.{set_split, set-get_or, length-take-le, take-add, drop-drop, drop-cons}}
use Rattle.octets.specs.Octets.{put}
use Rattle.records.specs.Phone.{joined, tabulate}
use Rattle.records.proofs.Puts.{put_left, put_right}

-- ---- a list of the values of a function

module _ {A : Type 0} where
  pub length_tabulate : (n : ℕ) (f : ℕ → A) → length (tabulate n f) ≡ n
  length_tabulate zero f = refl
  length_tabulate (suc n) f = ap suc (length_tabulate n (λ k. f (suc k)))

  pub get_or_tabulate : (n : ℕ) (f : ℕ → A) (d : A) (i : ℕ) → i < n → get_or (tabulate n f) i d ≡ f i
  get_or_tabulate zero f d i h = absurd (not-suc-le-zero h)
  get_or_tabulate (suc n) f d zero h = refl
  get_or_tabulate (suc n) f d (suc i) h = get_or_tabulate n (λ k. f (suc k)) d i (le_of_suc-le-suc h)

  pub tabulate_of : (d : A) (l : List A) (f : ℕ → A) → ((i : ℕ) → i < length l → f i ≡ get_or l i d) → tabulate (length l) f ≡ l
  tabulate_of d [] f h = refl
  tabulate_of d (a ∷ l) f h =
      ap₂ (λ (x : A) (y : List A). x ∷ y) (h 0 (omega arith)) (tabulate_of d l (λ k. f (suc k)) (λ i hi. h (suc i) (omega arith)))

-- ---- records of n bytes, each after the other

module _ {A : Type 0} (enc : A → List ℕ) (n : ℕ) (sized : (a : A) → length (enc a) ≡ n) where
  pub length_joined : (cs : List A) → length (joined enc cs) ≡ length cs * n
  length_joined [] = sym (zero-mul n)
  length_joined (c ∷ cs) =
      length-append (enc c) (joined enc cs) ∙ ap₂ ◌+◌ (sized c) (length_joined cs) ∙ add_comm n (length cs * n) ∙ sym (suc-mul (length cs) n)

  joined_append : (xs bs : List A) → joined enc (xs ++ bs) ≡ joined enc xs ++ joined enc bs
  joined_append [] bs = refl
  joined_append (a ∷ xs) bs = ap (λ (l : List ℕ). enc a ++ l) (joined_append xs bs) ∙ sym (append_assoc (enc a) (joined enc xs) (joined enc bs))

  module _ (pre : List ℕ) (cs : List A) (i : ℕ) (h : i < length cs) where
    -- what stands before record i
    front : List ℕ
    front = pre ++ joined enc (take i cs)

    length_front : length front ≡ length pre + i * n
    unfolding front
    length_front =
        length-append pre (joined enc (take i cs))
        ∙ ap (λ (k : ℕ). length pre + k) (length_joined (take i cs) ∙ ap (λ (k : ℕ). k * n) (length-take-le i cs (omega arith)))

    parts : (post : List ℕ) (a : A) → pre ++ (joined enc (set cs i a) ++ post) ≡ front ++ (enc a ++ (joined enc (drop (suc i) cs) ++ post))
    unfolding front
    parts post a =
        ap (λ (l : List A). pre ++ (joined enc l ++ post)) (set_split cs i a h)
        ∙ ap (λ (l : List ℕ). pre ++ (l ++ post)) (joined_append (take i cs) (a ∷ drop (suc i) cs))
        ∙ simp append_assoc

    parts_here : (post : List ℕ) (d : A) → pre ++ (joined enc cs ++ post) ≡ front ++ (enc (get_or cs i d) ++ (joined enc (drop (suc i) cs) ++ post))
    parts_here post d = ap (λ (l : List A). pre ++ (joined enc l ++ post)) (sym (set-get_or cs i d)) ∙ parts post (get_or cs i d)

    -- bytes put within record i make it another record
    pub put_joined : (post : List ℕ) (k : ℕ) (vs : List ℕ) (d a : A) → k + length vs ≤ n → put (enc (get_or cs i d)) k vs ≡ enc a
        → put (pre ++ (joined enc cs ++ post)) (length pre + i * n + k) vs ≡ pre ++ (joined enc (set cs i a) ++ post)
    put_joined post k vs d a hk e =
        let r = joined enc (drop (suc i) cs) ++ post in
        let hk' : k + length vs ≤ length (enc (get_or cs i d)) = rw (sized (get_or cs i d)) hk in
        ap₂ (λ (l : List ℕ) (m : ℕ). put l (m + k) vs) (parts_here post d) (sym length_front)
        ∙ put_right front (enc (get_or cs i d) ++ r) k vs
        ∙ ap (λ (l : List ℕ). front ++ l) (put_left (enc (get_or cs i d)) r k vs hk' ∙ ap (λ (l : List ℕ). l ++ r) e)
        ∙ sym (parts post a)

    -- what is read at record i, where reading goes by what stands there alone
    pub read_joined : (read : List ℕ → ℕ → A) → ((xs ys : List ℕ) (a : A) → read (xs ++ (enc a ++ ys)) (length xs) ≡ a)
        → (post : List ℕ) (d : A) → read (pre ++ (joined enc cs ++ post)) (length pre + i * n) ≡ get_or cs i d
    read_joined read here post d =
        ap₂ read (parts_here post d) (sym length_front) ∙ here front (joined enc (drop (suc i) cs) ++ post) (get_or cs i d)

-- ---- records read one after the other are the part that they stand in

module _ {A : Type 0} (enc : A → List ℕ) (size : ℕ) (read : List ℕ → ℕ → A) (l : List ℕ)
    (here : (a : ℕ) → a + size ≤ length l → enc (read l a) ≡ take size (drop a l)) where
  pub joined_tabulate : (n base : ℕ) → base + n * size ≤ length l → (f : ℕ → A) → ((i : ℕ) → f i ≡ read l (base + i * size))
      → joined enc (tabulate n f) ≡ take (n * size) (drop base l)
  joined_tabulate zero base h f e = rw zero-mul refl
  joined_tabulate (suc n) base h f e =
      let m : suc n * size ≡ size + n * size = suc-mul n size ∙ add_comm (n * size) size in
      let z : f zero ≡ read l base = e zero ∙ ap (read l) (ap (λ (k : ℕ). base + k) (zero-mul size) ∙ add-zero base) in
      ap₂ (λ (x y : List ℕ). x ++ y) (ap enc z ∙ here base (omega arith))
      (joined_tabulate n (base + size) (omega arith) (λ k. f (suc k)) (λ i. e (suc i) ∙ ap (read l) (step i)))
      ∙ ap (λ (x : List ℕ). take size (drop base l) ++ take (n * size) x) (sym (drop-drop size base l))
      ∙ sym (take-add size (n * size) (drop base l))
      ∙ ap (λ (k : ℕ). take k (drop base l)) (sym m)
    where
      step : (i : ℕ) → base + suc i * size ≡ base + size + i * size
      step i = omega (arith, suc-mul i size)

-- a part as its bytes, one by one
pub cells : (l : List ℕ) (n a : ℕ) → a + n * 1 ≤ length l → take (n * 1) (drop a l) ≡ joined (λ x. x ∷ []) (tabulate n (λ i. get_or l (a + i * 1) 0))
cells l n a h = sym (joined_tabulate (λ x. x ∷ []) 1 (λ m i. get_or m i 0) l (λ i hi. rw (drop-cons l i 0 (omega arith)) refl) n a h _ (λ i. refl))
