-- What a sweep over the slots from the last down keeps: the lowest of those from slot i on. Assumes nothing.
use Prim.Native.Nat.{ℕ, ◌+◌, ◌≤◌, ◌<◌}
use mathlib.Core.{Bool.{Bool, true, false, cond, ◌&&◌, ◌||◌}, List.List, Path.{◌≡◌, sym, ap, ap₂, subst, ◌∙◌}}
use native.Mathlib.Omega.{arith}
use lib.{Dec.{eqb, ltb}, ListN.{length, get_or, drop, drop_of_length-le}}
use Rattle.records.specs.{Phone.no_certificate, declared.Certificate.Certificate}
use Rattle.rules.specs.Chains.{serves}
use Rattle.laws.proofs.Loops.{rest}
use Rattle.explanations.specs.Why.{lowest}

module _ (t : Certificate → Bool) (n : ℕ) (l : List Certificate) (i : ℕ) where
  pub lowest_end : length l ≤ i → no_certificate ≡ lowest t n (drop i l)
  unfolding lowest
  lowest_end h = rw (drop_of_length-le l h)

  -- m is what the sweep kept from slot j on, c this slot, b its test
  pub lowest_back : {j : ℕ} {c m : Certificate} {b : Bool} {r : Certificate} → m ≡ lowest t n (drop j l) → i + 1 ≡ j → i < length l
      → c ≡ get_or l i no_certificate → b ≡ t (get_or l i no_certificate) → r ≡ cond (b && ltb n c.id && (eqb m.id 0 || ltb c.id m.id)) c m
      → r ≡ lowest t n (drop i l)
  unfolding lowest
  lowest_back {c} {m} {b} q e h k p r =
      r
      ∙ ap (λ b. cond (b && ltb n c.id && (eqb m.id 0 || ltb c.id m.id)) c m) (p ∙ ap t (sym k))
      ∙ ap₂ (λ c m. cond (t c && ltb n c.id && (eqb m.id 0 || ltb c.id m.id)) c m) k (q ∙ ap (λ j. lowest t n (drop j l)) (sym e))
      ∙ sym (ap (lowest t n) (rest no_certificate l i h))

  pub lowest_done : {m : Certificate} → m ≡ lowest t n (drop i l) → i ≤ 0 → m ≡ lowest t n l
  lowest_done {m} q h = let z : i ≡ 0 = omega arith in subst (λ n'. m ≡ lowest t n (drop n' l)) z q

-- ---- whether a slot serves: c is what was read of it, x what it is

module _ (f : Certificate → Bool) (d k : ℕ) {c : Certificate} (x : Certificate) (same : c ≡ x) where
  asked : (eqb x.domain d && eqb x.key k) ≡ (eqb c.domain d && eqb c.key k)
  asked = ap (λ c. eqb c.domain d && eqb c.key k) (sym same)

  pub serves_yes : {r : Bool} → (eqb c.domain d && eqb c.key k) ≡ true → r ≡ f x → r ≡ serves f d k x
  unfolding serves
  serves_yes h e = e ∙ sym (ap (λ b. b && f x) (asked ∙ h))

  pub serves_not : (eqb c.domain d && eqb c.key k) ≡ false → false ≡ serves f d k x
  unfolding serves
  serves_not h = sym (ap (λ b. b && f x) (asked ∙ h))
