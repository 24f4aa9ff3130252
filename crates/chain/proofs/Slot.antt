-- Whether one slot is good within n links: a trusted root, or a link whose verifying key has a link count within one less. Assumes nothing.
use Prim.Native.Nat.{ℕ, zero, suc, ◌-◌, ◌≤◌}
use mathlib.Core.{Bool.{Bool, true, false, not, ◌&&◌, ◌||◌}, Logic.◌≢◌, Path.{◌≡◌, sym, ap, ◌∙◌}}
use native.Mathlib.Omega.{arith}
use lib.Dec.{T, eqb}
use Rattle.records.specs.{Phone.Trust, declared.Certificate.Certificate}
use Rattle.rules.specs.{Words.{any, least}, Chains.{trusted_root, link, serves, good}}
use Rattle.laws.proofs.{Tests.{and_r, neqb→ne, ne→neqb, same}, Lists.any_out, Least.{least_small, least_passes, least_least}}
use Rattle.chain.specs.SlotWords.{reach}
use Rattle.chain.proofs.Good.{serves_more, good_up}

-- a test that more passes the further one goes
least_tells : (f : ℕ → Bool) (n : ℕ) → ((m : ℕ) → m ≤ n → T (f m) → T (f n)) → (T (f 0) → ⊥) → not (eqb (least n f) 0) ≡ f n
least_tells f n up none =
    same (not (eqb (least n f) 0)) (f n) (λ h. up (least n f) (least_small f n) (least_passes f n (neqb→ne (least n f) 0 h)))
    (λ h. ne→neqb (least n f) 0 (least_least f n n (some n h) (omega arith) h).0)
  where
    some : (k : ℕ) → T (f k) → 1 ≤ k
    some zero h = absurd (none h)
    some (suc k) h = omega arith

pub never_good : (n : ℕ) (t : Trust) (c : Certificate) → n ≡ 0 → false ≡ good n t c
unfolding good
never_good n t c e = ap (λ m. good m t c) (sym e)

never : (t : Trust) (d k : ℕ) → T (any (serves (good 0 t) d k) t.certificates) → ⊥
unfolding serves good
never t d k h =
    let s = any_out (serves (good 0 t) d k) t.certificates h in
    let a : T (serves (good 0 t) d k s.it) = s.passes in
    and_r (eqb s.it.domain d && eqb s.it.key k) false a

module _ (t : Trust) (n : ℕ) (nz : n ≢ 0) (c x : Certificate) (q : c ≡ x) (r : Bool) (e : r ≡ trusted_root t.seen c) where
  abbrev verified : ℕ → Bool
  verified m = any (serves (good m t) c.domain c.verifying) t.certificates

  one_link : (r || (link t.seen c && verified (n - 1))) ≡ good n t x
  unfolding good
  one_link =
      let s : suc (n - 1) ≡ n = omega arith in
      ap (λ b. b || (link t.seen c && verified (n - 1))) e ∙ ap (λ m. good m t c) s ∙ ap (good n t) q

  pub good_root : r ≡ true → true ≡ good n t x
  good_root y = ap (λ b. b || (link t.seen c && verified (n - 1))) (sym y) ∙ one_link

  module _ (z : r ≡ false) (l : Bool) (g : l ≡ link t.seen c) where
    by_link : (l && verified (n - 1)) ≡ good n t x
    by_link = ap (λ b. b && verified (n - 1)) g ∙ ap (λ b. b || (link t.seen c && verified (n - 1))) (sym z) ∙ one_link

    pub good_unlinked : l ≡ false → false ≡ good n t x
    good_unlinked y = ap (λ b. b && verified (n - 1)) (sym y) ∙ by_link

    pub good_by : l ≡ true → (m : ℕ) → m ≡ least (n - 1) (λ k. reach k t c.domain (λ v. eqb v c.verifying)) → not (eqb m 0) ≡ good n t x
    unfolding reach serves
    good_by y m h =
        ap (λ k. not (eqb k 0)) h
        ∙ least_tells verified (n - 1)
        (λ k le. serves_more (good k t) (good (n - 1) t) (λ a. good_up (n - 1) k t a le) c.domain c.verifying t.certificates)
        (never t c.domain c.verifying)
        ∙ ap (λ b. b && verified (n - 1)) (sym y)
        ∙ by_link
