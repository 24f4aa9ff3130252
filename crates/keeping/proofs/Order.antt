-- An order between phones: the lower one trusts no key, holds no executable and has no permission that the higher one lacks. Assumes nothing.
use Prim.Native.Nat.{ℕ}
use mathlib.Core.{List.Memᴰ, Logic.{◌≢◌, ◌⊎◌, inl, inr}, Path.{◌≡◌, refl, ◌∙◌}}
use lib.Dec.{T}
use Rattle.records.specs.{Phone.{Trust, Phone}, declared.Executable.Executable}
use Rattle.rules.specs.{Chains.chains_to, Codes.has_permission, Explicit.{Root, Issued}}
use Rattle.laws.proofs.{Keys.{Key, by_root, by_issued}, Shortest.{chains_key, chains_signed, key_chains}}

-- ---- keys

-- q trusts no key that p does not
pub record Fewer (q p : Trust) : Type 0 where
  pub roots : (d k : ℕ) → Root q d k → Root p d k
  pub issued : (d k v : ℕ) → Issued q d k v → Issued p d k v

pub fewer_refl : (p : Trust) → Fewer p p
fewer_refl p = record { roots = λ d k r. r; issued = λ d k v r. r }

fewer_trans : (r q p : Trust) → Fewer r q → Fewer q p → Fewer r p
fewer_trans r q p f g =
    record { roots = λ d k x. g.roots d k (f.roots d k x); issued = λ d k v x. g.issued d k v (f.issued d k v x) }

fewer_keys : (q p : Trust) → Fewer q p → {n d k : ℕ} → Key q n d k → Key p n d k
fewer_keys q p f (by_root {n} {d} {k} r) = by_root (f.roots d k r)
fewer_keys q p f (by_issued {n} {d} {k} v s r) = by_issued v (f.issued d k v s) (fewer_keys q p f r)

pub fewer_chains : (q p : Trust) → Fewer q p → (k d : ℕ) → T (chains_to q k d) → T (chains_to p k d)
fewer_chains q p f k d h = key_chains p k d (chains_signed q k d h) (fewer_keys q p f (chains_key q k d h))

-- ---- executables

-- lo is hi with the same domain or none, and with no permission that hi lacks
pub record Below (lo hi : Executable) : Type 0 where
  pub id : lo.id ≡ hi.id
  pub signing : lo.signing ≡ hi.signing
  pub domain : (lo.domain ≡ 0) ⊎ (lo.domain ≡ hi.domain)
  pub permissions : (a : ℕ) → T (has_permission lo a) → T (has_permission hi a)

pub below_refl : (x : Executable) → Below x x
below_refl x = record { id = refl; signing = refl; domain = inr refl; permissions = λ a h. h }

domain_trans : (x y z : ℕ) → (x ≡ 0) ⊎ (x ≡ y) → (y ≡ 0) ⊎ (y ≡ z) → (x ≡ 0) ⊎ (x ≡ z)
domain_trans x y z (inl e) h = inl e
domain_trans x y z (inr e) (inl f) = inl (e ∙ f)
domain_trans x y z (inr e) (inr f) = inr (e ∙ f)

below_trans : (x y z : Executable) → Below x y → Below y z → Below x z
below_trans x y z f g =
    record {
      id = f.id ∙ g.id;
      signing = f.signing ∙ g.signing;
      domain = domain_trans x.domain y.domain z.domain f.domain g.domain;
      permissions = λ a h. g.permissions a (f.permissions a h);
    }

-- an executable of p that lo is below
pub record Over (p : Phone) (lo : Executable) : Type 0 where
  pub executable : Executable
  pub mem : Memᴰ executable p.executables
  pub below : Below lo executable

-- ---- phones

-- q grants no more than p
pub record Under (q p : Phone) : Type 0 where
  pub trust : Fewer q.trust p.trust
  pub executables : (x : Executable) → Memᴰ x q.executables → x.id ≢ 0 → Over p x
  pub table : q.table ≡ p.table

pub over_itself : (p : Phone) (x : Executable) → Memᴰ x p.executables → Over p x
over_itself p x m = record { executable = x; mem = m; below = below_refl x }

pub under_refl : (p : Phone) → Under p p
under_refl p = record { trust = fewer_refl p.trust; executables = λ x m n. over_itself p x m; table = refl }

pub under_trans : (r q p : Phone) → Under r q → Under q p → Under r p
under_trans r q p f g =
    record { trust = fewer_trans r.trust q.trust p.trust f.trust g.trust; executables = up; table = f.table ∙ g.table }
  where
    up : (x : Executable) → Memᴰ x r.executables → x.id ≢ 0 → Over p x
    up x m n =
        let o = f.executables x m n in
        let w = g.executables o.executable o.mem (λ z. n (o.below.id ∙ z)) in
        record { executable = w.executable; mem = w.mem; below = below_trans x o.executable w.executable o.below w.below }
