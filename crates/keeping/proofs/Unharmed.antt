-- What makes a root trusted and an issued record a link, and what may change without harm: all that demand 3 knows of the two. Assumes nothing.
use Prim.Native.Nat.{ℕ, ◌≤◌}
use mathlib.Core.{Bool.◌||◌, Logic.{◌⊎◌, inl, inr}, Path.{◌≡◌, refl, subst, sym, ◌∙◌}}
use native.{Mathlib.Omega.arith, Mathlib.Nat.le_trans}
use lib.Dec.{T, eqb, leb, leb→le, le→leb, eqb→eq}
use Rattle.records.specs.{Phone.{Seen, no_certificate, marked, enabling}, declared.Certificate.Certificate}
use Rattle.rules.specs.{Chains.{present, in_date, valid_root, trusted_root, link}, ImageRules.valid_in}
use Rattle.laws.proofs.{Tests.{tests, or_cases}, Accepted.Valid, Roots.{Like, valid_root_of, valid_mark, valid_earlier, valid_like}}

-- ---- the tests, part by part

record Trusted (s : Seen) (c : Certificate) : Type 0 where
  valid : Valid c.domain s.clock c
  enabled : c.enabled ≡ 1
  present : T (present s c)

trusted_out : (s : Seen) (c : Certificate) → T (trusted_root s c) → Trusted s c
unfolding trusted_root valid_in
trusted_out s c h = record { valid = search tests; enabled = search tests; present = search tests }

trusted_in : (s : Seen) (c : Certificate) → Trusted s c → T (trusted_root s c)
unfolding trusted_root
trusted_in s c t = let v : T (valid_root s.clock c) = valid_root_of c.domain s.clock c t.valid in search tests

record Linked (s : Seen) (c : Certificate) : Type 0 where
  kind : c.kind ≡ 1
  in_date : T (in_date s.clock c)
  present : T (present s c)

link_out : (s : Seen) (c : Certificate) → T (link s c) → Linked s c
unfolding link
link_out s c h = record { kind = search tests; in_date = search tests; present = search tests }

link_in : (s : Seen) (c : Certificate) → Linked s c → T (link s c)
unfolding link
link_in s c l = search tests

-- ---- a free slot is good for nothing

pub free_untrusted : (s : Seen) → T (trusted_root s no_certificate) → ⊥
free_untrusted s h =
    let one : ◌≡◌ {A = ℕ} 0 1 = valid_mark 0 s.clock no_certificate (trusted_out s no_certificate h).valid in
    omega arith

pub free_no_link : (s : Seen) → T (link s no_certificate) → ⊥
free_no_link s h = let one : ◌≡◌ {A = ℕ} 0 1 = (link_out s no_certificate h).kind in omega arith

-- ---- only the mark and `enabled` differ

pub like_but_marks : (c : Certificate) (m n k l : ℕ) → Like (marked m (enabling n c)) (marked k (enabling l c))
like_but_marks c m n k l =
    record { id = refl; place = refl; kind = refl; domain = refl; key = refl; verifying = refl; owner = refl; expiry = refl }

present_like : (s : Seen) (x c : Certificate) → Like x c → T (present s x) → T (present s c)
unfolding present
present_like s x c k h = subst (λ n. T (eqb n 0 || eqb n s.card)) k.place h

pub like_trusted : (s : Seen) (x c : Certificate) → Like x c → (x.mark ≡ 1 → c.mark ≡ 1) → (x.enabled ≡ 1 → c.enabled ≡ 1)
    → T (trusted_root s x) → T (trusted_root s c)
like_trusted s x c k m n h =
    let t = trusted_out s x h in
    let v : Valid x.domain s.clock c = valid_like x.domain s.clock x c k m t.valid in
    trusted_in s c
    (record {
      valid = subst (λ d. Valid d s.clock c) k.domain v;
      enabled = n t.enabled;
      present = present_like s x c k t.present;
    })

pub like_link : (s : Seen) (x c : Certificate) → Like x c → T (link s x) → T (link s c)
unfolding in_date
like_link s x c k h =
    let l = link_out s x h in
    link_in s c
    (record {
      kind = sym k.kind ∙ l.kind;
      in_date = subst (λ n. T (leb s.clock n)) k.expiry l.in_date;
      present = present_like s x c k l.present;
    })

-- ---- seen earlier, and with a card where there was none

in_date_earlier : (t n : ℕ) (c : Certificate) → t ≤ n → T (in_date n c) → T (in_date t c)
unfolding in_date
in_date_earlier t n c l h = le→leb t c.expiry (le_trans l (leb→le n c.expiry h))

-- p is seen no later than q, and with the card of q if q has one
pub record Wider (q p : Seen) : Type 0 where
  pub clock : p.clock ≤ q.clock
  pub card : (q.card ≡ p.card) ⊎ (q.card ≡ 0)

wider_present : (q p : Seen) (c : Certificate) → Wider q p → T (present q c) → T (present p c)
unfolding present
wider_present q p c w h = go w.card (or_cases (eqb c.place 0) (eqb c.place q.card) h)
  where
    go : (q.card ≡ p.card) ⊎ (q.card ≡ 0) → T (eqb c.place 0) ⊎ T (eqb c.place q.card) → T (eqb c.place 0 || eqb c.place p.card)
    go e (inl z) = search tests
    go (inl e) (inr z) = let y : c.place ≡ p.card = eqb→eq c.place q.card z ∙ e in search tests
    go (inr e) (inr z) = let y : c.place ≡ 0 = eqb→eq c.place q.card z ∙ e in search tests

pub wider_trusted : (q p : Seen) (c : Certificate) → Wider q p → T (trusted_root q c) → T (trusted_root p c)
wider_trusted q p c w h =
    let t = trusted_out q c h in
    trusted_in p c
    (record {
      valid = valid_earlier c.domain p.clock q.clock c w.clock t.valid;
      enabled = t.enabled;
      present = wider_present q p c w t.present;
    })

pub wider_link : (q p : Seen) (c : Certificate) → Wider q p → T (link q c) → T (link p c)
wider_link q p c w h =
    let l = link_out q c h in
    link_in p c
    (record {
      kind = l.kind;
      in_date = in_date_earlier p.clock q.clock c w.clock l.in_date;
      present = wider_present q p c w l.present;
    })
