-- What `by_id` lists: every record that passes with an id above n, in order of id, and no other. Assumes nothing.
use Prim.Native.Nat.{ℕ, zero, suc, ◌+◌, ◌≤◌, ◌<◌}
use mathlib.Core.Bool.{Bool, true, false, cond, not, ◌&&◌}
use mathlib.Core.List.Memᴰ
use mathlib.Core.{List.{List, [], ◌∷◌, map, Memᴰ}, Logic.{◌⊎◌, inl, inr}}
use mathlib.Core.Path.{◌≡◌, refl, subst, sym}
use native.Mathlib.Omega.{arith}
use lib.{Dec.{T, T_not, eqb, ltb, ltb→lt, lt→ltb, nltb→le, not_T, eqb→eq}, ListN.length}
use Rattle.records.specs.declared.Certificate.{Certificate}
use Rattle.laws.proofs.Tests.{tests, neqb→ne, and_i, by_test}
use Rattle.explanations.specs.{Why.{lowest, by_id}, Claims.{count, Rising}}
use Rattle.explanations.proofs.LowestId.{cond_cases, Found, lowest_found, lowest_least}

-- ---- how many pass

abbrev one_more : Bool → ℕ → ℕ
one_more b n = cond b (suc n) n

-- whatever the first test counts the second counts, and r more are counted already
counts_on : (a b : Bool) (r m n : ℕ) → (T a → T b) → m + r ≤ n → one_more a m + r ≤ one_more b n
counts_on true true r m n h k = omega arith
counts_on false true r m n h k = omega arith
counts_on true false r m n h k = absurd (h tt)
counts_on false false r m n h k = k

module _ {A : Type 0} where
  count_small : (f : A → Bool) (l : List A) → count f l ≤ length l
  count_small f [] = omega arith
  count_small f (x ∷ l) = let r = count_small f l in cond_cases (λ n. n ≤ suc (length l)) (f x) _ _ (λ h. omega arith) (λ h. omega arith)

  module _ (f g : A → Bool) (h : (x : A) → T (f x) → T (g x)) where
    count_mono : (l : List A) → count f l ≤ count g l
    count_mono [] = omega arith
    count_mono (x ∷ l) = omega (arith, counts_on (f x) (g x) 0 (count f l) (count g l) (h x) (omega (arith, count_mono l)))

    count_more : {x : A} {l : List A} → Memᴰ x l → T (g x) → T (not (f x)) → count f l < count g l
    count_more {x} (Memᴰ.head {x = y} {xs} e) p q =
        let p : T (g y) = subst (λ z. T (g z)) e p in
        let q : T (not (f y)) = subst (λ z. T (not (f z))) e q in
        cond_cases (λ n. n < count g (y ∷ xs)) (f y) _ _ (λ z. absurd (T_not (f y) q z))
        (λ z. cond_cases (λ n. count f xs < n) (g y) _ _ (λ w. omega (arith, count_mono xs)) (λ w. absurd (T_not (g y) w p)))
    count_more {x} (Memᴰ.tail {x = y} {xs} m) p q =
        omega (arith, counts_on (f y) (g y) 1 (count f xs) (count g xs) (h y) (omega (arith, count_more m p q)))

-- ---- the list

-- one with the id n is listed
pub record Listed (s : List Certificate) (n : ℕ) : Type 0 where
  pub certificate : Certificate
  pub mem : Memᴰ certificate s
  pub id : certificate.id ≡ n

module _ (t : Certificate → Bool) (l : List Certificate) where
  pub by_id_rising : (k n : ℕ) → Rising n (map (λ c. c.id) (by_id k t n l))
  unfolding by_id
  by_id_rising zero n = tt
  by_id_rising (suc k) n =
      let c = lowest t n l in
      cond_cases (λ s. Rising n (map (λ c. c.id) s)) (eqb c.id 0) [] (c ∷ by_id k t c.id l)
      (λ z. tt) (λ z. ((lowest_found t n l (neqb→ne c.id 0 z)).above, by_id_rising k c.id))

  pub by_id_small : (k n : ℕ) → length (by_id k t n l) ≤ k
  unfolding by_id
  by_id_small zero n = omega arith
  by_id_small (suc k) n =
      let c = lowest t n l in
      cond_cases (λ s. length s ≤ suc k) (eqb c.id 0) [] (c ∷ by_id k t c.id l) (λ z. omega arith) (λ z. omega (arith, by_id_small k c.id))

  -- no other is listed
  pub by_id_found : (k n : ℕ) (c : Certificate) → Memᴰ c (by_id k t n l) → Found t n l c
  unfolding by_id
  by_id_found zero n c m = absurd (Memᴰ.not-nil m)
  by_id_found (suc k) n c m =
      let e = lowest t n l in
      cond_cases (λ s. Memᴰ c s → Found t n l c) (eqb e.id 0) [] (e ∷ by_id k t e.id l)
      (λ z m. absurd (Memᴰ.not-nil m)) (λ z m. go e (lowest_found t n l (neqb→ne e.id 0 z)) (by_id_found k e.id c) (Memᴰ.cases_cons m)) m
    where
      go : (e : Certificate) → Found t n l e → (Memᴰ c (by_id k t e.id l) → Found t e.id l c)
          → (c ≡ e) ⊎ Memᴰ c (by_id k t e.id l) → Found t n l c
      go e f r (inl q) = subst (λ c. Found t n l c) (sym q) f
      go e f r (inr m) = let g = r m in record { mem = g.mem; passes = g.passes; above = omega (arith, f.above, g.above) }

  -- and none is missed, where there are no more than k: the ones above an id that is listed are fewer than those above the one before
  abbrev passes_above : ℕ → Certificate → Bool
  passes_above n c = t c && ltb n c.id

  counted : (n : ℕ) (c : Certificate) → Found t n l c → T (passes_above n c)
  counted n c f = and_i (t c) (ltb n c.id) f.passes (lt→ltb n c.id f.above)

  fewer_above : (n : ℕ) (c : Certificate) → Found t n l c → count (passes_above c.id) l < count (passes_above n) l
  fewer_above n c f =
      count_more (passes_above c.id) (passes_above n)
      (λ x p. let a = ltb→lt c.id x.id (search tests) in and_i (t x) (ltb n x.id) (search tests) (lt→ltb n x.id (omega (arith, f.above))))
      f.mem (counted n c f) (not_T (passes_above c.id c) (λ p. omega (arith, ltb→lt c.id c.id (search tests))))

  all_listed : (k n : ℕ) → count (passes_above n) l ≤ k → (c : Certificate) → Found t n l c → Listed (by_id k t n l) c.id
  unfolding by_id
  all_listed zero n h c f = absurd (omega (arith, fewer_above n c f))
  all_listed (suc k) n h c f =
      let e = lowest t n l in
      let low = lowest_least t n f.mem f.passes f.above in
      let g = lowest_found t n l low.0 in
      let later : e.id < c.id → Listed (by_id k t e.id l) c.id =
      (λ a. all_listed k e.id (omega (arith, fewer_above n e g)) c (record { mem = f.mem; passes = f.passes; above = a })) in
      cond_cases (λ s. Listed s c.id) (eqb e.id 0) [] (e ∷ by_id k t e.id l)
      (λ z. absurd (low.0 (eqb→eq e.id 0 z)))
      (λ z. by_test (ltb e.id c.id)
      (λ a. let r = later (ltb→lt e.id c.id a) in record { certificate = r.certificate; mem = Memᴰ.tail r.mem; id = r.id })
      (λ a. record { certificate = e; mem = Memᴰ.head refl; id = omega (arith, low.1, nltb→le e.id c.id a) }))

  pub by_id_all : (n : ℕ) (c : Certificate) → Found t n l c → Listed (by_id (length l) t n l) c.id
  by_id_all n = all_listed (length l) n (count_small (passes_above n) l)
