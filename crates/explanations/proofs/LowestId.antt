-- What `lowest` finds: a record that passes with an id above n, and none has a lower. Assumes nothing.
use Prim.Native.Nat.{ℕ, ◌≤◌, ◌<◌}
use mathlib.Core.{Bool.{Bool, true, false, cond, not, ◌&&◌, ◌||◌}, List.{List, [], ◌∷◌, Memᴰ}, Logic.{◌≢◌, ◌⊎◌, inl, inr}}
use mathlib.Core.Path.{◌≡◌, refl, ap, subst}
use native.Mathlib.Omega.{arith}
use lib.Dec.{T, eqb, ltb, ltb→lt, lt→ltb, nltb→le, eqb→eq}
use Rattle.records.specs.declared.Certificate.{Certificate}
use Rattle.laws.proofs.Tests.{tests, neqb→ne, and_i, or_cases, nand, nor_l, nor_r}
use Rattle.explanations.specs.Why.{goes_before, lowest}

-- both ways of a choice, with the fact
pub cond_cases : {A : Type 0} (P : A → Type 0) (b : Bool) (x y : A) → (T b → P x) → (T (not b) → P y) → P (cond b x y)
cond_cases P true x y f g = f tt
cond_cases P false x y f g = g tt

module _ (t : Certificate → Bool) (n : ℕ) where
  -- one of the list that passes, with an id above n
  pub record Found (l : List Certificate) (c : Certificate) : Type 0 where
    pub mem : Memᴰ c l
    pub passes : T (t c)
    pub above : n < c.id

  before_out : (c m : Certificate) → T (goes_before t n c m) → T (t c) × (n < c.id) × (m.id ≢ 0 → c.id < m.id)
  before_out c m h = (search tests, ltb→lt n c.id (search tests), λ nz. go nz (or_cases (eqb m.id 0) (ltb c.id m.id) (search tests)))
    where
      go : m.id ≢ 0 → T (eqb m.id 0) ⊎ T (ltb c.id m.id) → c.id < m.id
      go nz (inl z) = absurd (nz (eqb→eq m.id 0 z))
      go nz (inr s) = ltb→lt c.id m.id s

  before_not : (c m : Certificate) → T (not (goes_before t n c m)) → T (t c) → n < c.id → (m.id ≢ 0) × (m.id ≤ c.id)
  before_not c m h p a =
      let b : T (t c && ltb n c.id) = and_i (t c) (ltb n c.id) p (lt→ltb n c.id a) in
      let g = nand (t c && ltb n c.id) (eqb m.id 0 || ltb c.id m.id) h b in
      (neqb→ne m.id 0 (nor_l (eqb m.id 0) (ltb c.id m.id) g), nltb→le c.id m.id (nor_r (eqb m.id 0) (ltb c.id m.id) g))

  pub lowest_found : (l : List Certificate) → (lowest t n l).id ≢ 0 → Found l (lowest t n l)
  unfolding lowest
  lowest_found [] nz = absurd (nz refl)
  lowest_found (c ∷ l) nz =
      let m = lowest t n l in
      cond_cases (λ e. e.id ≢ 0 → Found (c ∷ l) e) (goes_before t n c m) c m
      (λ h x. let b = before_out c m h in record { mem = Memᴰ.head refl; passes = b.0; above = b.1 })
      (λ h x. let f = lowest_found l x in record { mem = Memᴰ.tail f.mem; passes = f.passes; above = f.above })
      nz

  pub lowest_least : {c : Certificate} {l : List Certificate} → Memᴰ c l → T (t c) → n < c.id → ((lowest t n l).id ≢ 0) × ((lowest t n l).id ≤ c.id)
  unfolding lowest
  lowest_least {c} (Memᴰ.head {x} {xs} e) p a =
      let m = lowest t n xs in
      let i : c.id ≡ x.id = ap (λ c. c.id) e in
      cond_cases (λ f. (f.id ≢ 0) × (f.id ≤ c.id)) (goes_before t n x m) x m
      (λ h. (omega arith, omega arith))
      (λ h. let b = before_not x m h (subst (λ c. T (t c)) e p) (omega arith) in (b.0, omega arith))
  lowest_least {c} (Memᴰ.tail {x} {xs} k) p a =
      let m = lowest t n xs in
      let r = lowest_least k p a in
      cond_cases (λ f. (f.id ≢ 0) × (f.id ≤ c.id)) (goes_before t n x m) x m
      (λ h. let b = before_out x m h in (omega (arith, b.1), omega (arith, b.2 r.0)))
      (λ h. r)
