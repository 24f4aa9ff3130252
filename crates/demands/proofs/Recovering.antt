-- Recovery records: in no chain, and what a replace that is done says and does. Assumes nothing.
use Prim.Native.Nat.{ℕ, zero, suc}
use mathlib.Core.List.Memᴰ
use mathlib.Core.{Bool.{Bool, true, false, not, ◌&&◌, ◌||◌}, List.{List, Memᴰ}}
use mathlib.Core.{Logic.{◌≢◌, ◌⊎◌, inl, inr}, Path.{◌≡◌, refl, ap, sym, ◌∙◌, subst}}
use native.Mathlib.Omega.{arith}
use borrow.Author.Tests.{ne_eqb, not-true}
use lib.{Dec.{T, not_T, eqb}, ListN.get_or}
use Rattle.records.specs.{Phone.{Trust, Phone, no_certificate, certificate_at}, declared.Certificate.Certificate, declared.Event.Event}
use Rattle.rules.specs.{Words.{at, any}, Chains.{valid_root, trusted_root, link, serves, good}, Explicit.{Chain, ends, goes_on}}
use Rattle.rules.specs.{Forms.{with_kind, forms, no_form}, Actors.{by_domain, may_act, acts_for}}
use Rattle.rules.specs.Codes.{has_id, certificate_named, recovery_named, subject, actor_barred, no_such_root, may_replace, cannot_replace, code_of}
use Rattle.rules.specs.{Effects.{replaced, replace, effect, settle, changed}, Demands.{withdrawing, giving}}
use Rattle.laws.proofs.{Tests.{tests, and_l, and_r, nor_l, or_cases, not_elim}, Changes.map_at, Accepts.T_true, Accepted.{Occupied, Accepted}}
use Rattle.keeping.proofs.Unrefused.{Unrefused, unrefused, replace_formed, replaceable}
use Rattle.demands.specs.RecoveryKeys.{RecoveryFits, Replaces}

-- ---- in no chain

no_root : (t : Trust) (c : Certificate) → T (trusted_root t.seen c) → c.kind ≡ 0
unfolding trusted_root valid_root
no_root t c h = search tests

no_link : (t : Trust) (c : Certificate) → T (link t.seen c) → c.kind ≡ 1
unfolding link
no_link t c h = search tests

pub in_no_chain : (t : Trust) (d : ℕ) {k : ℕ} {l : List Certificate} → Chain t d k l → (c : Certificate) → Memᴰ c l → c.kind ≡ 2 → ⊥
in_no_chain t d (ends r) c m q =
    let e = ap (λ x. x.kind) (Memᴰ.eq_of_singleton m) in
    let z = no_root t r.certificate r.good in
    omega arith
in_no_chain t d (goes_on s more) c m q = go (λ n z. in_no_chain t d more c n z) (Memᴰ.cases_cons m)
  where
    go : {l : List Certificate} → (Memᴰ c l → c.kind ≡ 2 → ⊥) → (c ≡ s.certificate) ⊎ Memᴰ c l → ⊥
    go deeper (inl e) =
        let f = ap (λ x. x.kind) e in
        let z = no_link t s.certificate s.good in
        omega arith
    go deeper (inr n) = deeper n q

-- a record that is good is a root or a link
good_kind : (n : ℕ) (t : Trust) (c : Certificate) → T (good n t c) → (c.kind ≡ 0) ⊎ (c.kind ≡ 1)
unfolding good
good_kind zero t c h = absurd h
good_kind (suc n) t c h = go (or_cases (trusted_root t.seen c) (link t.seen c && up) h)
  where
    up : Bool
    up = any (serves (good n t) c.domain c.verifying) t.certificates

    go : T (trusted_root t.seen c) ⊎ T (link t.seen c && up) → (c.kind ≡ 0) ⊎ (c.kind ≡ 1)
    go (inl r) = inl (no_root t c r)
    go (inr r) = inr (no_link t c (and_l (link t.seen c) up r))

pub never_good : (n : ℕ) (t : Trust) (c : Certificate) → c.kind ≡ 2 → good n t c ≡ false
never_good n t c q = not-true (good n t c) (T_true (not (good n t c)) (not_T (good n t c) (λ h. go (good_kind n t c h))))
  where
    go : (c.kind ≡ 0) ⊎ (c.kind ≡ 1) → ⊥
    go (inl z) = omega arith
    go (inr z) = omega arith

-- ---- what I2 says of one

pub as_asked : (p : Phone) → Accepted p → (c : Certificate) → Memᴰ c p.trust.certificates → c.kind ≡ 2 → RecoveryFits c
as_asked p ok c m q = go (ok.trust.held.slots c m)
  where
    go : (c ≡ no_certificate) ⊎ Occupied c → RecoveryFits c
    go (inl z) = absurd (omega (arith, ap (λ x. x.kind) z))
    go (inr o) =
        let r = o.recovery q in
        record { phone_only = r.0; domain = (o.domain.0, r.1); verifying = r.2; mark = r.3; enabled = r.4 }

-- ---- a replace that is done

-- "allowed to the actor of the domain of id's record"
by_its_actor : (d a : ℕ) → T (by_domain d a false) → ((d ≡ 1) × (a ≡ 2)) ⊎ ((d ≡ 2) × (a ≡ 3))
by_its_actor d a h = outer (or_cases ((eqb d 1 && eqb a 2) || (eqb d 2 && eqb a 3)) (eqb d 3 && false) h)
  where
    inner : T (eqb d 1 && eqb a 2) ⊎ T (eqb d 2 && eqb a 3) → ((d ≡ 1) × (a ≡ 2)) ⊎ ((d ≡ 2) × (a ≡ 3))
    inner (inl t) = inl (search tests, search tests)
    inner (inr t) = inr (search tests, search tests)

    outer : T ((eqb d 1 && eqb a 2) || (eqb d 2 && eqb a 3)) ⊎ T (eqb d 3 && false) → ((d ≡ 1) × (a ≡ 2)) ⊎ ((d ≡ 2) × (a ≡ 3))
    outer (inl t) = inner (or_cases (eqb d 1 && eqb a 2) (eqb d 2 && eqb a 3) t)
    outer (inr t) = absurd (and_r (eqb d 3) false t)

replaces_so : (p : Phone) (e : Event) → Unrefused p (with_kind 16 e) → Replaces (with_kind 16 e) (certificate_named p e.id) (certificate_named p e.second)
unfolding subject recovery_named actor_barred may_act acts_for no_such_root cannot_replace
replaces_so p e t =
    let r = certificate_named p e.id in
    let s = certificate_named p e.second in
    let acts = by_domain r.domain e.actor false in
    let k = t.such_root in
    let w = replaceable (with_kind 16 e) r s (not_elim (may_replace (with_kind 16 e) r s) t.replaces) in
    record {
      actor = by_its_actor r.domain e.actor (and_l acts true (not_elim (acts && true) (nor_l (not (acts && true)) (eqb s.domain 3) t.allowed)));
      root = search tests;
      recovery = w.recovery;
      root_on_phone = w.root_on_phone;
      recovery_on_phone = w.recovery_on_phone;
      one_domain = w.domain;
      one_owner = w.owner;
      its_owner = w.event_owner;
      recovery_key = w.recovery_key;
    }

pub replaces : (p : Phone) (e : Event) → e.kind ≡ 16 → T (eqb (code_of p e) 0) → Replaces e (certificate_named p e.id) (certificate_named p e.second)
replaces p e k h = at_kind e.kind refl k (unrefused p e h)
  where
    at_kind : (n : ℕ) → n ≡ e.kind → n ≡ 16 → Unrefused p e → Replaces e (certificate_named p e.id) (certificate_named p e.second)
    at_kind n q z u =
        let same : with_kind 16 e ≡ e = ap (λ k. with_kind k e) (sym z ∙ q) in
        subst (λ x. Replaces x (certificate_named p e.id) (certificate_named p e.second)) same
        (replaces_so p e (subst (λ x. Unrefused p x) (sym same) u))

-- "The root keeps its id and slot, takes the new key, owner and expiry, and is marked valid.", and every other slot is as it was
slots_after : (p : Phone) (e : Event) → e.kind ≡ 16 → e.id ≢ 0 → (i : ℕ)
    → certificate_at (changed e p) i ≡ at (has_id e.id) (replaced e) (certificate_at p i)
unfolding changed settle effect replace
slots_after p e k nz i =
    rw k
    (map_at (λ c d. d ≡ at (has_id e.id) (replaced e) c) (at (has_id e.id) (replaced e)) no_certificate p.trust.certificates
    (rw (ne_eqb 0 e.id (λ z. nz (sym z))) refl) (λ c. refl) i)

pub replaced_slots : (p : Phone) (e : Event) → e.kind ≡ 16 → T (eqb (code_of p e) 0) → (i : ℕ)
    → certificate_at (changed e p) i ≡ at (has_id e.id) (replaced e) (certificate_at p i)
replaced_slots p e k h i = slots_after p e k (replace_formed p e (subst (λ n. T (get_or forms n no_form p e)) k (unrefused p e h).formed)).0 i

-- ---- neither list

pub in_neither : (p : Phone) (e : Event) → e.kind ≡ 16 → (withdrawing p e ≡ false) × (giving p e ≡ false)
unfolding withdrawing giving
in_neither p e k = (rw k refl, rw k refl)
