-- Numbers that differ, but for 0. Assumes nothing.
use Prim.Native.Nat.{ℕ}
use mathlib.Core.Bool.{Bool, true, false, cond, not, ◌||◌}
use mathlib.Core.List.Memᴰ
use mathlib.Core.List.{List, [], ◌∷◌, map, Memᴰ}
use mathlib.Core.{Logic.{◌≢◌, ◌⊎◌, inl, inr}, Path.{◌≡◌, refl, sym, ap, ◌∙◌}}
use lib.Dec.{T, eqb, T_not, eqb→eq}
use Rattle.rules.specs.Words.{any, fill, distinct}
use Rattle.laws.proofs.{Tests.{tests, eq→eqb, or_cases, and_r, and_i, or_j, by_test, neqb→ne}, Lists.{any_in, none_in, fill_out}}

module _ {A : Type 0} (i : A → ℕ) where
  -- one that is not 0 is not met again
  pub head_alone : (x : A) (l : List A) → T (distinct (map i (x ∷ l))) → (f : A) → Memᴰ f l → i x ≢ 0 → i x ≢ i f
  unfolding distinct
  head_alone x l h f m nz e = go (or_cases (eqb (i x) 0) (not (any (eqb (i x)) (map i l))) (search tests))
    where
      go : T (eqb (i x) 0) ⊎ T (not (any (eqb (i x)) (map i l))) → ⊥
      go (inl z) = nz (eqb→eq (i x) 0 z)
      go (inr z) = T_not (any (eqb (i x)) (map i l)) z (any_in (eqb (i x)) (Memᴰ.map i m) (eq→eqb (i x) (i f) e))

  pub alone : (l : List A) → T (distinct (map i l)) → (e f : A) → Memᴰ e l → Memᴰ f l → i e ≢ 0 → i e ≡ i f → e ≡ f
  unfolding distinct
  alone [] h e f m n nz q = absurd (Memᴰ.not-nil m)
  alone (x ∷ l) h e f m n nz q =
      go (alone l (and_r (eqb (i x) 0 || not (any (eqb (i x)) (map i l))) (distinct (map i l)) h) e f)
      (Memᴰ.cases_cons m) (Memᴰ.cases_cons n)
    where
      go : (Memᴰ e l → Memᴰ f l → i e ≢ 0 → i e ≡ i f → e ≡ f) → (e ≡ x) ⊎ Memᴰ e l → (f ≡ x) ⊎ Memᴰ f l → e ≡ f
      go r (inl a) (inl b) = a ∙ sym b
      go r (inl a) (inr b) = absurd (head_alone x l h f b (λ z. nz (ap i a ∙ z)) (ap i (sym a) ∙ q))
      go r (inr a) (inl b) = absurd (head_alone x l h e a (λ z. nz (q ∙ ap i b ∙ z)) (ap i (sym b) ∙ sym q))
      go r (inr a) (inr b) = r a b nz q

  -- put together again: the head is 0 or not met
  cons_distinct : (x : A) (l : List A) → (i x ≢ 0 → (y : A) → Memᴰ y l → i x ≢ i y) → T (distinct (map i l)) → T (distinct (map i (x ∷ l)))
  unfolding distinct
  cons_distinct x l h d =
      and_i (eqb (i x) 0 || not (any (eqb (i x)) (map i l))) (distinct (map i l))
      (by_test (eqb (i x) 0) (λ t. search tests)
      (λ t. or_j (eqb (i x) 0) (not (any (eqb (i x)) (map i l))) (none_in (eqb (i x)) (map i l) (none (neqb→ne (i x) 0 t)))))
      d
    where
      none : i x ≢ 0 → (n : ℕ) → Memᴰ n (map i l) → T (eqb (i x) n) → ⊥
      none nz n m t = let o = Memᴰ.of_map i l m in h nz o.0 o.1 (eqb→eq (i x) n t ∙ sym o.2)

  pub tail_distinct : (x : A) (l : List A) → T (distinct (map i (x ∷ l))) → T (distinct (map i l))
  unfolding distinct
  tail_distinct x l h = search tests

  -- numbers stay, or become 0
  pub distinct_map : (f : A → A) → ((x : A) → i (f x) ≢ 0 → i (f x) ≡ i x) → (l : List A) → T (distinct (map i l)) → T (distinct (map i (map f l)))
  unfolding distinct
  distinct_map f k [] h = tt
  distinct_map f k (x ∷ l) h = cons_distinct (f x) (map f l) apart (distinct_map f k l (tail_distinct x l h))
    where
      apart : i (f x) ≢ 0 → (y : A) → Memᴰ y (map f l) → i (f x) ≢ i y
      apart nz y m e =
          let o = Memᴰ.of_map f l m in
          let a : i (f x) ≡ i (f o.0) = e ∙ ap i (sym o.2) in
          let b : i (f o.0) ≡ i o.0 = k o.0 (λ z. nz (a ∙ z)) in
          head_alone x l h o.0 o.1 (λ z. nz (k x nz ∙ z)) (sym (k x nz) ∙ a ∙ b)

  -- a new number in a free place
  pub distinct_fill : (t : A → Bool) (a : A) (l : List A) → ((y : A) → Memᴰ y l → i y ≢ i a) → T (distinct (map i l)) → T (distinct (map i (fill t a l)))
  unfolding distinct fill
  distinct_fill t a [] n h = tt
  distinct_fill t a (x ∷ l) n h = go (t x) (distinct_fill t a l (λ y m. n y (Memᴰ.tail m)) (tail_distinct x l h))
    where
      apart : i x ≢ 0 → (y : A) → Memᴰ y (fill t a l) → i x ≢ i y
      apart nz y m e = both (fill_out t a l y m)
        where
          both : (y ≡ a) ⊎ Memᴰ y l → ⊥
          both (inl q) = n x (Memᴰ.head refl) (e ∙ ap i q)
          both (inr m) = head_alone x l h y m nz e

      go : (b : Bool) → T (distinct (map i (fill t a l))) → T (distinct (map i (cond b (a ∷ l) (x ∷ fill t a l))))
      go true r = cons_distinct a l (λ nz y m e. n y (Memᴰ.tail m) (sym e)) (tail_distinct x l h)
      go false r = cons_distinct x (fill t a l) apart r
