-- Who acts in events 6 to 8, and what of the certificates it touches. Assumes nothing.
use Prim.Native.Nat.{ℕ, suc, ◌≤◌, ◌<◌}
use mathlib.Core.{Bool.{Bool, true, false, not, ◌&&◌, ◌||◌}, List.{List, [], ◌∷◌, Memᴰ}, Logic.{◌≢◌, ◌⊎◌, inl, inr}, Path.{◌≡◌, refl, sym, ap, ◌∙◌, subst}}
use native.{Mathlib.Omega.arith, Mathlib.Nat.eq-or-lt_of_le}
use borrow.Author.Tests.{ne_eqb}
use lib.{Dec.{T, eqb, eqb→eq, leb, leb→le, nleb→lt}, ListN.get_or}
use Rattle.records.specs.{Phone.{Phone, no_certificate, certificate_at, marked}, declared.Certificate.Certificate, declared.Event.Event}
use Rattle.rules.specs.{Words.between, Actors.{may_act, somebody, acts_for}, Chains.{present, in_date, valid_root}, ImageRules.{operator_of, valid_in}}
use Rattle.rules.specs.{Codes.{certificate_named, subject, recovery_named, id_unknown, actor_barred, card_away, code_of}, Forms.{forms, no_form, with_kind}}
use Rattle.rules.specs.{Effects.{phone_operator_root, on_a_card, changed}, Step.step}
use Rattle.laws.proofs.{Tests.{tests, and_l, and_r, or_cases, not_elim, nor_l}, Accepts.T_true, Accepted.{Occupied, Held, Kept}, Slots.at_each}
use Rattle.keeping.proofs.{Unrefused.{Unrefused, unrefused, owned_formed}, Naming.{certificate_named_is, certificate_named_alone}}
use Rattle.demands.specs.{MayTouch.CertificateKept, Owners.{OwnerKept, AsOwner, AsOwners}}
use Rattle.demands.proofs.TouchNoMore.{framed_changed}

resolve : (a b : Bool) → T (not a || b) → T a → T b
resolve true b h t = h
resolve false b h t = absurd t

-- events 6 to 8 are about the certificate that they name
subject_named : (p : Phone) (e : Event) → T (between 6 8 e.kind) → subject p e ≡ certificate_named p e.id
unfolding subject
subject_named p e t =
    let six : 6 ≤ e.kind = leb→le 6 e.kind (and_l (leb 6 e.kind) (leb e.kind 8) t) in
    let other : e.kind ≢ 5 = omega arith in
    rw (ne_eqb e.kind 5 other, T_true (between 6 8 e.kind) t) refl

-- whoever says who it is has the certificate that it names
pub acts_as_owner : (p : Phone) (e : Event) → T (eqb (code_of p e) 0) → T (somebody e) → (certificate_named p e.id).owner ≡ e.owner
unfolding actor_barred acts_for
acts_as_owner p e h s =
    let kinds = and_l (between 6 8 e.kind) (between 2 3 e.actor) s in
    let c = subject p e in
    let may = may_act e.kind c.domain e.actor in
    let owns = not (somebody e) || eqb e.owner c.owner in
    let third = eqb e.kind 16 && eqb (recovery_named p e).domain 3 in
    let allowed = not_elim (may && owns) (nor_l (not (may && owns)) third (unrefused p e h).allowed) in
    let same = eqb→eq e.owner c.owner (resolve (somebody e) (eqb e.owner c.owner) (and_r may owns allowed) s) in
    ap (λ x. x.owner) (sym (subject_named p e kinds)) ∙ sym same

-- each event of a run, in the state that it meets
pub in_a_run : ((l v : List ℕ) → AsOwner l v) → (l : List ℕ) (vs : List (List ℕ)) → AsOwners l vs
in_a_run h l [] = tt
in_a_run h l (v ∷ vs) = (h l v, in_a_run h (step l v).image vs)

-- ---- what it touches

-- a slot with the id that an event names is the record that it names
slot_named : (p : Phone) (n : ℕ) → Held p.cards p.trust.certificates → n ≢ 0 → (i : ℕ)
    → (certificate_at p i).id ≡ n → certificate_named p n ≡ certificate_at p i
slot_named p n ok nz =
    at_each (λ c. c.id ≡ n → certificate_named p n ≡ c) no_certificate p.trust.certificates (λ z. absurd (nz (sym z)))
    (λ c m q. certificate_named_alone p n c ok nz (record { mem = m; id = q }))

-- and it is not 0
id_given : (p : Phone) (e : Event) (k : ℕ) → T (between 6 8 k) → T (get_or forms k no_form p e) → e.id ≢ 0
id_given p e k t f = go (eq-or-lt_of_le (leb→le k 8 (and_r (leb 6 k) (leb k 8) t)))
  where
    six : 6 ≤ k
    six = leb→le 6 k (and_l (leb 6 k) (leb k 8) t)

    formed : (n : ℕ) → k ≡ n → T (get_or forms n no_form p e)
    formed n q = subst (λ n. T (get_or forms n no_form p e)) q f

    below : (suc k ≡ 8) ⊎ (suc k < 8) → e.id ≢ 0
    below (inl q) = owned_formed p e (formed 7 (omega arith))
    below (inr q) = owned_formed p e (formed 6 (omega (arith, six)))

    go : (k ≡ 8) ⊎ (k < 8) → e.id ≢ 0
    go (inl q) = owned_formed p e (formed 8 q)
    go (inr q) = below (eq-or-lt_of_le q)

-- of the kinds that may take the marks of others 7 alone names a certificate
by_card : (k : ℕ) (b : Bool) → T (between 6 8 k) → T (eqb k 2 || eqb k 4 || (eqb k 7 && b)) → (k ≡ 7) × T b
by_card k b t h = go (or_cases (eqb k 2 || eqb k 4) (eqb k 7 && b) h)
  where
    six : 6 ≤ k
    six = leb→le 6 k (and_l (leb 6 k) (leb k 8) t)

    card : T (eqb k 2) ⊎ T (eqb k 4) → (k ≡ 7) × T b
    card (inl u) = let q = eqb→eq k 2 u in absurd (omega (arith, six))
    card (inr u) = let q = eqb→eq k 4 u in absurd (omega (arith, six))

    go : T (eqb k 2 || eqb k 4) ⊎ T (eqb k 7 && b) → (k ≡ 7) × T b
    go (inl u) = card (or_cases (eqb k 2) (eqb k 4) u)
    go (inr u) = (eqb→eq k 7 (and_l (eqb k 7) b u), and_r (eqb k 7) b u)

-- a root on a card that is marked valid is of the operator whose card is present
of_the_card : (p : Phone) → Kept p.cards p.trust → (e : Event) → Unrefused p (with_kind 7 e) → T (on_a_card (certificate_named p e.id))
    → (p.trust.seen.card ≢ 0) × ((certificate_named p e.id).owner ≡ operator_of p.cards p.trust.seen.card)
unfolding id_unknown subject card_away present on_a_card
of_the_card p ok e t h =
    let r = certificate_named p e.id in
    let card = p.trust.seen.card in
    let k = t.known in
    let g = certificate_named_is p e.id (search tests) in
    let away : r.place ≢ 0 = search tests in
    let here = here_or r.place card away (not_elim (eqb r.place 0 || eqb r.place card) t.here) in
    (λ z. away (here ∙ z), ok.held.owners r g.mem (search tests) (search tests) away ∙ ap (operator_of p.cards) here)
  where
    here_or : (a b : ℕ) → a ≢ 0 → T (eqb a 0 || eqb a b) → a ≡ b
    here_or a b nz h = go (or_cases (eqb a 0) (eqb a b) h)
      where
        go : T (eqb a 0) ⊎ T (eqb a b) → a ≡ b
        go (inl z) = absurd (nz (eqb→eq a 0 z))
        go (inr z) = eqb→eq a b z

-- the mark that a card's root takes from an operator root on the phone: there was none, or it is the owner's, or one past its date
taken : (p : Phone) → Kept p.cards p.trust → (e : Event) → e.kind ≡ 7 → p.trust.seen.card ≢ 0
    → operator_of p.cards p.trust.seen.card ≡ e.owner → (c : Certificate) → Memᴰ c p.trust.certificates
    → T (phone_operator_root c) → OwnerKept p.trust.seen.clock e c (marked 0 c)
unfolding valid_in valid_root in_date
taken p ok e seven in-it own c m h = go (ok.held.slots c m)
  where
    clock : ℕ
    clock = p.trust.seen.clock

    valid : c.mark ≡ 1 → T (in_date clock c) → T (valid_in 1 clock c)
    valid q t = search tests

    dated : c.mark ≡ 1 → (b : Bool) → in_date clock c ≡ b → OwnerKept clock e c (marked 0 c)
    dated q true t = OwnerKept.own (ok.yielding.mine c m (valid q (rw t tt)) (search tests) in-it ∙ own)
    dated q false t = OwnerKept.outdated seven h (nleb→lt clock c.expiry (rw t tt)) refl

    marks : (c.mark ≡ 1) ⊎ (c.mark < 1) → OwnerKept clock e c (marked 0 c)
    marks (inl q) = dated q (in_date clock c) refl
    marks (inr q) = let z : c.mark ≡ 0 = omega arith in OwnerKept.same (ap (λ n. marked n c) (sym z))

    go : (c ≡ no_certificate) ⊎ Occupied c → OwnerKept clock e c (marked 0 c)
    go (inl z) = absurd (subst (λ c. T (phone_operator_root c)) z h)
    go (inr o) = marks (eq-or-lt_of_le o.mark)

pub touches_its_own : (p : Phone) (e : Event) → Kept p.cards p.trust → T (eqb (code_of p e) 0) → T (somebody e) → (i : ℕ)
    → OwnerKept p.trust.seen.clock e (certificate_at p i) (certificate_at (changed e p) i)
touches_its_own p e ok h s i = go (certificate_at (changed e p) i) ((framed_changed e p h).certificates i)
  where
    clock : ℕ
    clock = p.trust.seen.clock

    c : Certificate
    c = certificate_at p i

    kinds : T (between 6 8 e.kind)
    kinds = and_l (between 6 8 e.kind) (between 2 3 e.actor) s

    its : (d : Certificate) → c.id ≡ e.id → OwnerKept clock e c d
    its d q =
        let n = id_given p e e.kind kinds (unrefused p e h).formed in
        OwnerKept.own (ap (λ x. x.owner) (sym (slot_named p e.id ok.held n i q)) ∙ acts_as_owner p e h s)

    marked_off : e.kind ≡ 7 → T (on_a_card (certificate_named p e.id)) → T (phone_operator_root c) → OwnerKept clock e c (marked 0 c)
    marked_off k on =
        let w = of_the_card p ok e (subst (λ n. Unrefused p (with_kind n e)) k (unrefused p e h)) on in
        at_each (λ c. T (phone_operator_root c) → OwnerKept clock e c (marked 0 c)) no_certificate p.trust.certificates (λ t. absurd t)
        (taken p ok e k w.0 (sym w.1 ∙ acts_as_owner p e h s)) i

    go : (d : Certificate) → CertificateKept p e c d → OwnerKept clock e c d
    go d (CertificateKept.same q) = OwnerKept.same q
    go d (CertificateKept.swept k t q) =
        let w = by_card e.kind (on_a_card (certificate_named p e.id)) kinds k in
        subst (OwnerKept clock e c) (sym q) (marked_off w.0 w.1 t)
    go d (CertificateKept.marked_valid k q z) = its d q
    go d (CertificateKept.marked_invalid k q z) = its d q
    go d (CertificateKept.enabled k t q) = absurd (subst (λ n. T (between 6 8 n)) k kinds)
    go d (CertificateKept.filled k q z) = absurd (subst (λ n. T (between 6 8 n)) k kinds)
    go d (CertificateKept.deleted k q z) = its d q
    go d (CertificateKept.renewed k q z) = absurd (subst (λ n. T (between 6 8 n)) k kinds)
