-- What is good within n links is good within more. Assumes nothing.
use Prim.Native.Nat.{ℕ, zero, suc, ◌≤◌}
use mathlib.Core.{Bool.{Bool, ◌&&◌, ◌||◌}, List.List, Logic.{◌⊎◌, inl, inr}, Path.{◌≡◌, subst}}
use native.Mathlib.Omega.{arith}
use lib.Dec.{T, eqb, eqb→eq}
use Rattle.records.specs.{Phone.Trust, declared.Certificate.Certificate}
use Rattle.rules.specs.{Words.any, Chains.{trusted_root, link, serves, good}}
use Rattle.laws.proofs.{Tests.{tests, or_cases, neqb→ne, by_test}, Lists.{any_out, any_in}}

pub serves_more : (f g : Certificate → Bool) → ((c : Certificate) → T (f c) → T (g c)) → (d k : ℕ) (l : List Certificate)
    → T (any (serves f d k) l) → T (any (serves g d k) l)
unfolding serves
serves_more f g h d k l t =
    let s = any_out (serves f d k) l t in
    let a : T (serves f d k s.it) = s.passes in
    let b : T (g s.it) = h s.it (search tests) in
    any_in (serves g d k) s.mem (search tests)

pub good_more : (n : ℕ) (t : Trust) (c : Certificate) → T (good n t c) → T (good (suc n) t c)
unfolding good
good_more zero t c h = absurd h
good_more (suc n) t c h =
    go (serves_more (good n t) (good (suc n) t) (good_more n t) c.domain c.verifying t.certificates)
    (or_cases (trusted_root t.seen c) (link t.seen c && any (serves (good n t) c.domain c.verifying) t.certificates) h)
  where
    go : (T (any (serves (good n t) c.domain c.verifying) t.certificates)
        → T (any (serves (good (suc n) t) c.domain c.verifying) t.certificates))
        → T (trusted_root t.seen c) ⊎ T (link t.seen c && any (serves (good n t) c.domain c.verifying) t.certificates)
        → T (trusted_root t.seen c || (link t.seen c && any (serves (good (suc n) t) c.domain c.verifying) t.certificates))
    go m (inl r) = search tests
    go m (inr s) =
        let a : T (any (serves (good n t) c.domain c.verifying) t.certificates) = search tests in
        let b = m a in
        search tests

pub good_up : (n m : ℕ) (t : Trust) (c : Certificate) → m ≤ n → T (good m t c) → T (good n t c)
unfolding good
good_up zero m t c h g = let e : m ≡ 0 = omega arith in subst (λ k. T (good k t c)) e g
good_up (suc n) m t c h g =
    by_test (eqb m (suc n)) (λ b. subst (λ k. T (good k t c)) (eqb→eq m (suc n) b) g)
    (λ b. good_more n t c (good_up n m t c (omega (arith, neqb→ne m (suc n) b)) g))
