-- A chain as a list of records, for whoever would rather see it than count links. Definitions only.
use Rattle.std.specs.Prelude.{ℕ, ◌≤◌}
use mathlib.Core.{List.{List, [], ◌∷◌, Memᴰ}, Path.◌≡◌}
use lib.{Dec.T, ListN.length}
use Rattle.records.specs.{Phone.Trust, declared.Certificate.Certificate}
use Rattle.rules.specs.Chains.{trusted_root, link}

-- a trusted root of domain d with the key k
pub record Root (t : Trust) (d k : ℕ) : Type 0 where
  pub certificate : Certificate
  pub mem : Memᴰ certificate t.certificates
  pub good : T (trusted_root t.seen certificate)
  pub domain : certificate.domain ≡ d
  pub key : certificate.key ≡ k

-- an issued record of domain d with the key k, present and in date, that the key v verifies
pub record Issued (t : Trust) (d k v : ℕ) : Type 0 where
  pub certificate : Certificate
  pub mem : Memᴰ certificate t.certificates
  pub good : T (link t.seen certificate)
  pub domain : certificate.domain ≡ d
  pub key : certificate.key ≡ k
  pub verifying : certificate.verifying ≡ v

-- records of domain d, the first with the key k, each verified by the next, down to a trusted root
pub data Chain (t : Trust) (d : ℕ) : ℕ → List Certificate → Type 0 where
  ends : {k : ℕ} (r : Root t d k) → Chain t d k (r.certificate ∷ [])
  goes_on : {k v : ℕ} {l : List Certificate} (s : Issued t d k v) → Chain t d v l → Chain t d k (s.certificate ∷ l)

-- a chain of at most n records
pub record ChainWithin (n : ℕ) (t : Trust) (d k : ℕ) : Type 0 where
  pub records : List Certificate
  pub is_chain : Chain t d k records
  pub short : length records ≤ n

-- a chain of n records, and none that is shorter
pub record Shortest (t : Trust) (d k n : ℕ) : Type 0 where
  pub records : List Certificate
  pub is_chain : Chain t d k records
  pub long : length records ≡ n
  pub least : (l : List Certificate) → Chain t d k l → n ≤ length l
