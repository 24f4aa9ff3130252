-- What a valid root is worth, and what it depends on. All that the proofs know of the meaning of valid. Assumes nothing.
use Prim.Native.Nat.{ℕ, ◌≤◌}
use mathlib.Core.Path.{◌≡◌, sym, ◌∙◌, subst}
use native.Mathlib.Nat.{le_trans}
use lib.Dec.{T, leb, leb→le, le→leb}
use Rattle.records.specs.declared.Certificate.{Certificate}
use Rattle.rules.specs.{Chains.{in_date, valid_root}, ImageRules.valid_in}
use Rattle.laws.proofs.{Tests.tests, Accepted.Valid}

pub valid_root_of : (d t : ℕ) (c : Certificate) → Valid d t c → T (valid_root t c)
unfolding valid_in
valid_root_of d t c v = search tests

pub valid_domain : (d t : ℕ) (c : Certificate) → Valid d t c → c.domain ≡ d
unfolding valid_in
valid_domain d t c v = search tests

pub valid_kind : (d t : ℕ) (c : Certificate) → Valid d t c → c.kind ≡ 0
unfolding valid_in valid_root
valid_kind d t c v = search tests

pub valid_mark : (d t : ℕ) (c : Certificate) → Valid d t c → c.mark ≡ 1
unfolding valid_in valid_root
valid_mark d t c v = search tests

valid_in_date : (d t : ℕ) (c : Certificate) → Valid d t c → T (in_date t c)
unfolding valid_in valid_root
valid_in_date d t c v = search tests

-- what is in date was so before
pub in_date_earlier : (t u : ℕ) (c : Certificate) → t ≤ u → T (in_date u c) → T (in_date t c)
unfolding in_date
in_date_earlier t u c l h = le→leb t c.expiry (le_trans l (leb→le u c.expiry h))

pub valid_earlier : (d t u : ℕ) (c : Certificate) → t ≤ u → Valid d u c → Valid d t c
unfolding valid_in valid_root
valid_earlier d t u c l v =
    let k = valid_kind d u c v in
    let m = valid_mark d u c v in
    let e = valid_domain d u c v in
    let i = in_date_earlier t u c l (valid_in_date d u c v) in
    search tests

-- a slot that keeps all but its marks
pub record Like (x c : Certificate) : Type 0 where
  pub id : x.id ≡ c.id
  pub place : x.place ≡ c.place
  pub kind : x.kind ≡ c.kind
  pub domain : x.domain ≡ c.domain
  pub key : x.key ≡ c.key
  pub verifying : x.verifying ≡ c.verifying
  pub owner : x.owner ≡ c.owner
  pub expiry : x.expiry ≡ c.expiry

like_in_date : (t : ℕ) (x c : Certificate) → Like x c → T (in_date t x) → T (in_date t c)
unfolding in_date
like_in_date t x c k h = subst (λ n. T (leb t n)) k.expiry h

pub valid_like : (d t : ℕ) (x c : Certificate) → Like x c → (x.mark ≡ 1 → c.mark ≡ 1) → Valid d t x → Valid d t c
unfolding valid_in valid_root
valid_like d t x c k m v =
    let a : c.kind ≡ 0 = sym k.kind ∙ valid_kind d t x v in
    let b : c.mark ≡ 1 = m (valid_mark d t x v) in
    let e : c.domain ≡ d = sym k.domain ∙ valid_domain d t x v in
    let i : T (in_date t c) = like_in_date t x c k (valid_in_date d t x v) in
    search tests
