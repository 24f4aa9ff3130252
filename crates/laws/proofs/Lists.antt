-- Membership, and `any`, `map`, `fill` over it. Assumes nothing.
use mathlib.Core.Bool.{Bool, true, false, cond, not, ◌||◌}
use mathlib.Core.List.Memᴰ
use mathlib.Core.{List.{List, [], ◌∷◌, Memᴰ}, Logic.{◌⊎◌, inl, inr}}
use mathlib.Core.Path.{◌≡◌, refl, subst, sym}
use lib.Dec.{T, T_not, not_T}
use Rattle.rules.specs.Words.{any, all, all_pairs, fill, find}
use Rattle.laws.proofs.Tests.{or_i, or_j, or_cases, and_l, and_r, and_i}

-- some member passes the test
pub record Some {A : Type 0} (f : A → Bool) (l : List A) : Type 0 where
  pub it : A
  pub mem : Memᴰ it l
  pub passes : T (f it)

pub any_out : {A : Type 0} (f : A → Bool) (l : List A) → T (any f l) → Some f l
unfolding any
any_out f [] h = absurd h
any_out {A} f (x ∷ xs) h = go (any_out f xs) (or_cases (f x) (any f xs) h)
  where
    go : (T (any f xs) → Some f xs) → T (f x) ⊎ T (any f xs) → Some f (x ∷ xs)
    go r (inl t) = record { it = x; mem = Memᴰ.head refl; passes = t }
    go r (inr t) = let s = r t in record { it = s.it; mem = Memᴰ.tail s.mem; passes = s.passes }

pub any_in : {A : Type 0} (f : A → Bool) {x : A} {l : List A} → Memᴰ x l → T (f x) → T (any f l)
unfolding any
any_in f {x} (Memᴰ.head {x = y} {xs} e) t = or_i (f y) (any f xs) (subst (λ z. T (f z)) e t)
any_in f {x} (Memᴰ.tail {x = y} {xs} m) t = or_j (f y) (any f xs) (any_in f m t)

pub find_in : {A : Type 0} (t : A → Bool) (d : A) (l : List A) → T (any t l) → Memᴰ (find t d l) l × T (t (find t d l))
unfolding any find
find_in t d [] h = absurd h
find_in {A} t d (x ∷ xs) h = go (t x) (λ k. k) h (find_in t d xs)
  where
    go : (b : Bool) → (T b → T (t x)) → T (b || any t xs) → (T (any t xs) → Memᴰ (find t d xs) xs × T (t (find t d xs)))
        → Memᴰ (cond b x (find t d xs)) (x ∷ xs) × T (t (cond b x (find t d xs)))
    go true k h r = (Memᴰ.head refl, k tt)
    go false k h r = let s = r h in (Memᴰ.tail s.0, s.1)

pub none_out : {A : Type 0} (f : A → Bool) (l : List A) → T (not (any f l)) → (x : A) → Memᴰ x l → T (f x) → ⊥
none_out f l h x m t = T_not (any f l) h (any_in f m t)

pub none_in : {A : Type 0} (f : A → Bool) (l : List A) → ((x : A) → Memᴰ x l → T (f x) → ⊥) → T (not (any f l))
none_in f l h = not_T (any f l) (λ t. let s = any_out f l t in h s.it s.mem s.passes)

-- what stands in a list after a free place is filled
pub fill_out : {A : Type 0} (t : A → Bool) (a : A) (l : List A) (y : A) → Memᴰ y (fill t a l) → (y ≡ a) ⊎ Memᴰ y l
unfolding fill
fill_out t a [] y m = inr m
fill_out {A} t a (x ∷ xs) y m = go (t x) m (fill_out t a xs y)
  where
    tail : (y ≡ a) ⊎ Memᴰ y xs → (y ≡ a) ⊎ Memᴰ y (x ∷ xs)
    tail (inl e) = inl e
    tail (inr n) = inr (Memᴰ.tail n)

    past : (Memᴰ y (fill t a xs) → (y ≡ a) ⊎ Memᴰ y xs) → (y ≡ x) ⊎ Memᴰ y (fill t a xs) → (y ≡ a) ⊎ Memᴰ y (x ∷ xs)
    past r (inl e) = inr (Memᴰ.head e)
    past r (inr n) = tail (r n)

    go : (b : Bool) → Memᴰ y (cond b (a ∷ xs) (x ∷ fill t a xs)) → (Memᴰ y (fill t a xs) → (y ≡ a) ⊎ Memᴰ y xs) → (y ≡ a) ⊎ Memᴰ y (x ∷ xs)
    go true m r = tail (Memᴰ.cases_cons m)
    go false m r = past r (Memᴰ.cases_cons m)

pub fill_keeps : {A : Type 0} (t : A → Bool) (a : A) (l : List A) (y : A) → Memᴰ y l → T (not (t y)) → Memᴰ y (fill t a l)
unfolding fill
fill_keeps t a [] y m n = m
fill_keeps {A} t a (x ∷ xs) y m n = go (t x) (λ h. h) (fill_keeps t a xs y) (Memᴰ.cases_cons m)
  where
    go : (b : Bool) → (T b → T (t x)) → (Memᴰ y xs → T (not (t y)) → Memᴰ y (fill t a xs)) → (y ≡ x) ⊎ Memᴰ y xs
        → Memᴰ y (cond b (a ∷ xs) (x ∷ fill t a xs))
    go true h r (inl e) = absurd (T_not (t y) n (subst (λ z. T (t z)) (sym e) (h tt)))
    go true h r (inr k) = Memᴰ.tail k
    go false h r (inl e) = Memᴰ.head e
    go false h r (inr k) = Memᴰ.tail (r k n)

pub fill_has : {A : Type 0} (t : A → Bool) (a : A) (l : List A) → T (any t l) → Memᴰ a (fill t a l)
unfolding fill any
fill_has t a [] h = absurd h
fill_has {A} t a (x ∷ xs) h = go (t x) h (fill_has t a xs)
  where
    go : (b : Bool) → T (b || any t xs) → (T (any t xs) → Memᴰ a (fill t a xs)) → Memᴰ a (cond b (a ∷ xs) (x ∷ fill t a xs))
    go true h r = Memᴰ.head refl
    go false h r = Memᴰ.tail (r h)

pub all_out : {A : Type 0} (f : A → Bool) (l : List A) → T (all f l) → (x : A) → Memᴰ x l → T (f x)
unfolding all
all_out f [] h x m = absurd (Memᴰ.not-nil m)
all_out f (y ∷ l) h x m = go (all_out f l (and_r (f y) (all f l) h) x) (Memᴰ.cases_cons m)
  where
    go : (Memᴰ x l → T (f x)) → (x ≡ y) ⊎ Memᴰ x l → T (f x)
    go r (inl e) = subst (λ z. T (f z)) (sym e) (and_l (f y) (all f l) h)
    go r (inr n) = r n

pub all_in : {A : Type 0} (f : A → Bool) (l : List A) → ((x : A) → Memᴰ x l → T (f x)) → T (all f l)
unfolding all
all_in f [] h = tt
all_in f (y ∷ l) h = and_i (f y) (all f l) (h y (Memᴰ.head refl)) (all_in f l (λ x m. h x (Memᴰ.tail m)))

pub pairs_out : {A : Type 0} (r : A → A → Bool) (l : List A) → T (all_pairs r l) → (x y : A) → Memᴰ x l → Memᴰ y l → T (r x y)
pairs_out r l h x y m n = all_out (r x) l (all_out (λ x. all (r x) l) l h x m) y n

pub pairs_in : {A : Type 0} (r : A → A → Bool) (l : List A) → ((x y : A) → Memᴰ x l → Memᴰ y l → T (r x y)) → T (all_pairs r l)
pairs_in r l h = all_in (λ x. all (r x) l) l (λ x m. all_in (r x) l (λ y n. h x y m n))
