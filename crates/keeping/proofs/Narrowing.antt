-- What a change of the slots does to the order, whatever event makes it. Assumes nothing.
use Prim.Native.Nat.{ℕ}
use mathlib.Core.List.Memᴰ
use mathlib.Core.{Bool.{Bool, true, false, cond, not, ◌&&◌}, List.{List, map, Memᴰ}, Logic.{◌≢◌, ◌⊎◌, inl, inr}}
use mathlib.Core.Path.{◌≡◌, refl, subst, sym, ap, ◌∙◌}
use lib.Dec.{T, eqb→eq}
use Rattle.records.specs.{Phone.{Seen, Trust, Phone, no_certificate, marked, enabling, with_certificates, with_executables}, declared.Certificate.Certificate}
use Rattle.records.specs.declared.Executable.{Executable}
use Rattle.rules.specs.{Chains.{trusted_root, link}, Words.fill, ImageRules.free_certificate, Codes.has_id}
use Rattle.rules.specs.{Effects.{phone_operator_root, on_a_card, after_marking}, Explicit.{Root, Issued}}
use Rattle.laws.proofs.{Tests.by_test, Lists.{any_in, fill_keeps, fill_has}, Accepted.{Occupied, Accepted}, Roots.Like}
use Rattle.keeping.proofs.{CertificateMaps.like_refl, Order.{Fewer, Below, Over, Under, fewer_refl, over_itself}}
use Rattle.keeping.proofs.Unharmed.{free_untrusted, free_no_link, like_but_marks, like_trusted, like_link, Wider, wider_trusted, wider_link}

-- ---- one certificate

-- what lo is good for as q is seen, hi is good for as p is seen
pub record Narrows (q p : Seen) (lo hi : Certificate) : Type 0 where
  pub root : T (trusted_root q lo) → T (trusted_root p hi) × Like lo hi
  pub issued : T (link q lo) → T (link p hi) × Like lo hi

-- a certificate with one mark and another, `enabled` one way and another
pub narrows_marked : (s : Seen) (c : Certificate) (m n k l : ℕ) → (m ≡ 1 → k ≡ 1) → (n ≡ 1 → l ≡ 1)
    → Narrows s s (marked m (enabling n c)) (marked k (enabling l c))
narrows_marked s c m n k l mark enable =
    let lo = marked m (enabling n c) in
    let hi = marked k (enabling l c) in
    let alike = like_but_marks c m n k l in
    record { root = λ h. (like_trusted s lo hi alike mark enable h, alike); issued = λ h. (like_link s lo hi alike h, alike) }

pub narrows_refl : (s : Seen) (c : Certificate) → Narrows s s c c
narrows_refl s c = narrows_marked s c c.mark c.enabled c.mark c.enabled (λ h. h) (λ h. h)

pub narrows_free : (s : Seen) (c : Certificate) → Narrows s s no_certificate c
narrows_free s c = record { root = λ h. absurd (free_untrusted s h); issued = λ h. absurd (free_no_link s h) }

narrows_wider : (q p : Seen) (c : Certificate) → Wider q p → Narrows q p c c
narrows_wider q p c w = record { root = λ h. (wider_trusted q p c w h, like_refl c); issued = λ h. (wider_link q p c w h, like_refl c) }

-- ---- all certificates

-- a certificate of p that is good for whatever lo is good for in q
pub record From (q p : Trust) (lo : Certificate) : Type 0 where
  pub certificate : Certificate
  pub mem : Memᴰ certificate p.certificates
  pub narrows : Narrows q.seen p.seen lo certificate

pub fewer_by : (q p : Trust) → ((c : Certificate) → Memᴰ c q.certificates → From q p c) → Fewer q p
fewer_by q p h = record { roots = roots; issued = issued }
  where
    roots : (d k : ℕ) → Root q d k → Root p d k
    roots d k r =
        let f = h r.certificate r.mem in
        let n = f.narrows.root r.good in
        record {
          certificate = f.certificate;
          mem = f.mem;
          good = n.0;
          domain = sym n.1.domain ∙ r.domain;
          key = sym n.1.key ∙ r.key;
        }

    issued : (d k v : ℕ) → Issued q d k v → Issued p d k v
    issued d k v r =
        let f = h r.certificate r.mem in
        let n = f.narrows.issued r.good in
        record {
          certificate = f.certificate;
          mem = f.mem;
          good = n.0;
          domain = sym n.1.domain ∙ r.domain;
          key = sym n.1.key ∙ r.key;
          verifying = sym n.1.verifying ∙ r.verifying;
        }

-- every slot changed by one function, read both ways
module _ (s : Seen) (l : List Certificate) (f : Certificate → Certificate) where
  abbrev pub before : Trust
  before = record { seen = s; certificates = l }

  abbrev pub mapped : Trust
  mapped = record { seen = s; certificates = map f l }

  pub fewer_map : ((c : Certificate) → Narrows s s (f c) c) → Fewer mapped before
  fewer_map h = fewer_by mapped before go
    where
      go : (c : Certificate) → Memᴰ c (map f l) → From mapped before c
      go c m =
          let o = Memᴰ.of_map f l m in
          record { certificate = o.0; mem = o.1; narrows = subst (λ x. Narrows s s x o.0) o.2 (h o.0) }

  pub more_map : ((c : Certificate) → Narrows s s c (f c)) → Fewer before mapped
  more_map h = fewer_by before mapped (λ c m. record { certificate = f c; mem = Memᴰ.map f m; narrows = h c })

-- the same slots, seen at another time or with another card
pub fewer_seen : (q p : Seen) (l : List Certificate) → Wider q p → Fewer (record { seen = q; certificates = l }) (record { seen = p; certificates = l })
fewer_seen q p l w = fewer_by _ _ (λ c m. record { certificate = c; mem = m; narrows = narrows_wider q p c w })

-- a new one in a free slot: what stood there was good for nothing
pub more_filled : (p : Phone) → Accepted p → (c : Certificate)
    → Fewer p.trust (with_certificates (fill free_certificate c p.trust.certificates) p).trust
more_filled p ok new = fewer_by p.trust filled (λ c m. by_test (free_certificate c) (λ t. replaced c m t) (λ n. kept c m n))
  where
    s : Seen
    s = p.trust.seen

    filled : Trust
    filled = record { seen = p.trust.seen; certificates = fill free_certificate new p.trust.certificates }

    free : (c : Certificate) → (c ≡ no_certificate) ⊎ Occupied c → T (free_certificate c) → c ≡ no_certificate
    free c (inl z) t = z
    free c (inr o) t = absurd (o.id (eqb→eq c.id 0 t))

    replaced : (c : Certificate) → Memᴰ c p.trust.certificates → T (free_certificate c) → From p.trust filled c
    replaced c m t =
        record {
          certificate = new;
          mem = fill_has free_certificate new p.trust.certificates (any_in free_certificate m t);
          narrows = subst (λ x. Narrows s s x new) (sym (free c (ok.trust.held.slots c m) t)) (narrows_free s new);
        }

    kept : (c : Certificate) → Memᴰ c p.trust.certificates → T (not (free_certificate c)) → From p.trust filled c
    kept c m n =
        record { certificate = c; mem = fill_keeps free_certificate new p.trust.certificates c m n; narrows = narrows_refl s c }

-- a root marked valid that is no operator root on a card: no other mark changes
pub marking_widens : (s : Seen) (n : ℕ) (r c : Certificate) → T (not (on_a_card r)) → Narrows s s c (after_marking n r c)
unfolding after_marking
marking_widens s n r c h = go (has_id n c) (on_a_card r) h
  where
    go : (a b : Bool) → T (not b) → Narrows s s c (cond a (marked 1 c) (cond (b && phone_operator_root c) (marked 0 c) c))
    go true b h = narrows_marked s c c.mark c.enabled 1 c.enabled (λ m. refl) (λ m. m)
    go false true h = absurd h
    go false false h = narrows_refl s c

-- ---- phones

-- the same executables and table, other certificates
pub under_trust : (q p : Phone) → Fewer q.trust p.trust → q.executables ≡ p.executables → q.table ≡ p.table → Under q p
under_trust q p f e t =
    record { trust = f; executables = λ x m n. over_itself p x (subst (Memᴰ x) e m); table = t }

-- every executable changed by one function, read both ways
module _ (p : Phone) (f : Executable → Executable) where
  pub under_map : ((x : Executable) → (f x).id ≢ 0 → Below (f x) x) → Under (with_executables (map f p.executables) p) p
  under_map h = record { trust = fewer_refl p.trust; executables = go; table = refl }
    where
      go : (x : Executable) → Memᴰ x (map f p.executables) → x.id ≢ 0 → Over p x
      go x m n =
          let o = Memᴰ.of_map f p.executables m in
          let b : Below (f o.0) o.0 = h o.0 (λ z. n (ap (λ y. y.id) (sym o.2) ∙ z)) in
          record { executable = o.0; mem = o.1; below = subst (λ y. Below y o.0) o.2 b }

  pub over_map : ((x : Executable) → Memᴰ x p.executables → Below x (f x)) → Under p (with_executables (map f p.executables) p)
  over_map h =
      record { trust = fewer_refl p.trust; executables = λ x m n. record { executable = f x; mem = Memᴰ.map f m; below = h x m }; table = refl }
