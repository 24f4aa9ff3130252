-- A certificate that is deleted or marked invalid leaves the chains of other domains alone: only its own has to be settled. Assumes nothing.
use Prim.Native.Nat.{ℕ}
use mathlib.Core.List.Memᴰ
use mathlib.Core.{List.{Memᴰ}, Logic.◌≢◌, Path.{◌≡◌, refl, sym, ap, subst, ◌∙◌}}
use lib.Dec.{T, eqb→eq}
use Rattle.records.specs.{Phone.{Trust, Phone, with_certificates}, declared.Certificate.Certificate}
use Rattle.rules.specs.{Words.{at, change}, Chains.chains_to, Explicit.{Root, Issued}, Codes.{has_id, certificate_named}, Effects.settle}
use Rattle.laws.proofs.{Accepted.Accepted, Changes.at_cases, Keys.{Key, by_root, by_issued}, Shortest.{chains_key, chains_signed, key_chains}}
use Rattle.keeping.proofs.Naming.{certificate_named_alone}
use Rattle.chain.specs.Settling.{settle_in}
use Rattle.chain.proofs.SettledInTurn.{settle_own}

-- ---- one domain

-- q trusts no key of domain d that p does not
record FewerIn (d : ℕ) (q p : Trust) : Type 0 where
  roots : (k : ℕ) → Root q d k → Root p d k
  issued : (k v : ℕ) → Issued q d k v → Issued p d k v

module _ (q p : Trust) {d : ℕ} (f : FewerIn d q p) where
  fewer_keys : {n k : ℕ} → Key q n d k → Key p n d k
  fewer_keys (by_root {k = k} r) = by_root (f.roots k r)
  fewer_keys (by_issued {k = k} v s r) = by_issued v (f.issued k v s) (fewer_keys r)

  fewer_chains : (k : ℕ) → T (chains_to q k d) → T (chains_to p k d)
  fewer_chains k h = key_chains p k d (chains_signed q k d h) (fewer_keys (chains_key q k d h))

-- ---- the certificate with id n, changed

module _ (p : Phone) (ok : Accepted p) (n : ℕ) (nz : n ≢ 0) (f : Certificate → Certificate) where
  abbrev own : ℕ
  own = (certificate_named p n).domain

  abbrev after : Phone
  after = with_certificates (change (has_id n) f p.trust.certificates) p

  -- a record of another domain is not the one that is changed
  stays : (c : Certificate) → Memᴰ c p.trust.certificates → c.domain ≢ own → Memᴰ c after.trust.certificates
  stays c m h =
      subst (λ x. Memᴰ x after.trust.certificates)
      (at_cases (λ new old. new ≡ old) (has_id n) f c (λ t. absurd (h (mine t))) (λ _. refl))
      (Memᴰ.map (at (has_id n) f) m)
    where
      mine : T (has_id n c) → c.domain ≡ own
      mine t = ap (λ x. x.domain) (sym (certificate_named_alone p n c ok.trust.held nz (record { mem = m; id = eqb→eq c.id n t })))

  others : (d : ℕ) → d ≢ own → FewerIn d p.trust after.trust
  others d h =
      record {
        roots = λ k r. record {
          certificate = r.certificate;
          mem = stays r.certificate r.mem (λ z. h (sym r.domain ∙ z));
          good = r.good;
          domain = r.domain;
          key = r.key;
        };
        issued = λ k v r. record {
          certificate = r.certificate;
          mem = stays r.certificate r.mem (λ z. h (sym r.domain ∙ z));
          good = r.good;
          domain = r.domain;
          key = r.key;
          verifying = r.verifying;
        };
      }

  pub own_settles : settle_in own after ≡ settle after
  own_settles =
      settle_own own after
      (λ x m z o. fewer_chains p.trust after.trust (others x.domain o) x.signing (ok.chained x m z))
