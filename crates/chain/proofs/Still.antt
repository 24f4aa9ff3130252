-- A change that no executable loses its chain by: what chained still chains, so that there is nothing to settle. Assumes nothing.
use Prim.Native.Nat.{ℕ}
use mathlib.Core.List.Memᴰ
use mathlib.Core.{Bool.{false, not, ◌||◌}, List.{Memᴰ}, Logic.{◌⊎◌, inl, inr}, Path.{◌≡◌, refl, sym, ap, subst, ◌∙◌}}
use native.Mathlib.Omega.{arith}
use lib.Dec.{T, eqb, eqb→eq}
use Rattle.records.specs.{Phone.{Phone, no_certificate, marked, enabling, with_clock, with_card, with_certificates}, declared.Certificate.Certificate}
use Rattle.records.specs.declared.Event.{Event}
use Rattle.rules.specs.{Words.{any, at}, Chains.{present, in_date, valid_root, trusted_root, link}, ImageRules.third_party_root, Forms.new_certificate}
use Rattle.rules.specs.Codes.{certificate_named}
use Rattle.rules.specs.Effects.{settle, retired, phone_operator_root, marked_operator, card_rule, on_a_card, after_marking, install_certificate, mark_valid}
use Rattle.rules.specs.Effects.{enabled_by, message}
use Rattle.laws.proofs.{Accepted.{Occupied, Accepted}, Tests.{tests, or_cases, eq→eqb, by_test}, Lists.none_out, Changes.at_cases}
use Rattle.keeping.proofs.{Order.{Fewer, fewer_chains}, Narrowing.{Narrows, narrows_marked, narrows_refl, fewer_by, more_map, more_filled, marking_widens}}
use Rattle.keeping.proofs.Settle.{map_id, settle_still}
use Rattle.chain.specs.Breaks.{disables, runs_out}

module _ (p : Phone) (ok : Accepted p) where
  -- a phone that trusts no fewer keys and has the same executables: each still chains
  widened_still : (q : Phone) → Fewer p.trust q.trust → q.executables ≡ p.executables → settle q ≡ q
  widened_still q f e =
      settle_still q (λ x m d. fewer_chains p.trust q.trust f x.signing x.domain (ok.chained x (subst (Memᴰ x) e m) d))

  -- the same slots at another time at which no record has run out
  lasts : (t : ℕ) (c : Certificate) → (T (runs_out p.trust.seen.clock t c) → ⊥) → T (eqb c.mark 1)
      → T (in_date p.trust.seen.clock c) → T (in_date t c)
  unfolding runs_out
  lasts t c h m i = by_test (in_date t c) (λ y. y) (λ n. absurd (h (search tests)))

  later_root : (t : ℕ) (c : Certificate) → (T (runs_out p.trust.seen.clock t c) → ⊥)
      → T (trusted_root p.trust.seen c) → T (trusted_root (with_clock t p).trust.seen c)
  unfolding trusted_root valid_root present
  later_root t c h r =
      let k : T (eqb c.kind 0) = search tests in
      let m : T (eqb c.mark 1) = search tests in
      let n : T (eqb c.enabled 1) = search tests in
      let w : T (eqb c.place 0 || eqb c.place p.trust.seen.card) = search tests in
      let y = lasts t c h m (search tests) in
      search tests

  -- an issued record is always marked valid
  issued_marked : (c : Certificate) → Memᴰ c p.trust.certificates → c.kind ≡ 1 → c.mark ≡ 1
  issued_marked c m k = go (ok.trust.held.slots c m)
    where
      go : (c ≡ no_certificate) ⊎ Occupied c → c.mark ≡ 1
      go (inl z) = absurd (omega (arith, ap (λ x. x.kind) z))
      go (inr o) = (o.issued k).1

  later_link : (t : ℕ) (c : Certificate) → Memᴰ c p.trust.certificates → (T (runs_out p.trust.seen.clock t c) → ⊥)
      → T (link p.trust.seen c) → T (link (with_clock t p).trust.seen c)
  unfolding link present
  later_link t c m h r =
      let k : T (eqb c.kind 1) = search tests in
      let w : T (eqb c.place 0 || eqb c.place p.trust.seen.card) = search tests in
      let y = lasts t c h (eq→eqb c.mark 1 (issued_marked c m (eqb→eq c.kind 1 k))) (search tests) in
      search tests

  later_narrows : (t : ℕ) (c : Certificate) → Memᴰ c p.trust.certificates → (T (runs_out p.trust.seen.clock t c) → ⊥)
      → Narrows p.trust.seen (with_clock t p).trust.seen c c
  later_narrows t c m h =
      record {
        root = λ r. (later_root t c h r, ((narrows_refl p.trust.seen c).root r).1);
        issued = λ r. (later_link t c m h r, ((narrows_refl p.trust.seen c).issued r).1);
      }

  later_fewer : (t : ℕ) → T (not (any (runs_out p.trust.seen.clock t) p.trust.certificates)) → Fewer p.trust (with_clock t p).trust
  later_fewer t h =
      let none = none_out (runs_out p.trust.seen.clock t) p.trust.certificates h in
      fewer_by p.trust (with_clock t p).trust (λ c m. record { certificate = c; mem = m; narrows = later_narrows t c m (none c m) })

  -- no operator root on the phone is marked valid: the card rule finds no mark to take
  module _ (n : ℕ) (unmarked : T (not (any marked_operator p.trust.certificates))) where
    no_mark : (c : Certificate) → Memᴰ c p.trust.certificates → T (phone_operator_root c) → c.mark ≡ 0
    no_mark c m o = go (ok.trust.held.slots c m)
      where
        none : c.mark ≡ 1 → ⊥
        none e =
            let a : T (eqb c.mark 1) = eq→eqb c.mark 1 e in
            none_out marked_operator p.trust.certificates unmarked c m (search tests)

        go : (c ≡ no_certificate) ⊎ Occupied c → c.mark ≡ 0
        go (inl e) = ap (λ x. x.mark) e
        go (inr h) = let f = h.mark in omega (arith, f, none)

    pub rule_idle : card_rule (with_card n p) ≡ with_card n p
    unfolding card_rule retired
    rule_idle =
        ap (λ l. with_certificates l (with_card n p))
        (map_id (at (retired (with_card n p)) (marked 0)) p.trust.certificates
        (λ c m. at_cases (λ hi lo. hi ≡ lo) (retired (with_card n p)) (marked 0) c (λ t. ap (λ k. marked k c) (sym (no_mark c m (search tests)))) (λ f. refl)))

  -- a card comes where none is: nothing goes
  module _ (n : ℕ) (none : p.trust.seen.card ≡ 0) where
    come_present : (c : Certificate) → T (present p.trust.seen c) → T (present (with_card n p).trust.seen c)
    unfolding present
    come_present c h =
        let e : c.place ≡ 0 = go (or_cases (eqb c.place 0) (eqb c.place p.trust.seen.card) h) in
        let a : T (eqb c.place 0) = eq→eqb c.place 0 e in
        search tests
      where
        go : T (eqb c.place 0) ⊎ T (eqb c.place p.trust.seen.card) → c.place ≡ 0
        go (inl a) = eqb→eq c.place 0 a
        go (inr b) = eqb→eq c.place p.trust.seen.card b ∙ none

    come_kept : (c : Certificate) → Narrows p.trust.seen (with_card n p).trust.seen c c
    unfolding trusted_root link
    come_kept c =
        let same = narrows_refl p.trust.seen c in
        record {
          root = λ r. (let a : T (present p.trust.seen c) = search tests in let b = come_present c a in search tests, (same.root r).1);
          issued = λ r. (let a : T (present p.trust.seen c) = search tests in let b = come_present c a in search tests, (same.issued r).1);
        }

    come_fewer : Fewer p.trust (with_card n p).trust
    come_fewer = fewer_by p.trust (with_card n p).trust (λ c m. record { certificate = c; mem = m; narrows = come_kept c })

  -- a root that stays enabled, by what a message makes of it
  message_narrows : (e : Event) (c : Certificate) → (T (disables e c) → ⊥)
      → Narrows p.trust.seen p.trust.seen c (at third_party_root (λ c. enabling (enabled_by e c) c) c)
  unfolding disables
  message_narrows e c h =
      at_cases (λ hi lo. Narrows p.trust.seen p.trust.seen lo hi) third_party_root (λ c. enabling (enabled_by e c) c) c
      (λ t. narrows_marked p.trust.seen c c.mark c.enabled c.mark (enabled_by e c) (λ m. m) (kept t))
      (λ n. narrows_refl p.trust.seen c)
    where
      kept : T (third_party_root c) → c.enabled ≡ 1 → enabled_by e c ≡ 1
      kept t m =
          let a : T (eqb c.enabled 1) = eq→eqb c.enabled 1 m in
          by_test (eqb (enabled_by e c) 1) (λ y. eqb→eq (enabled_by e c) 1 y) (λ n. absurd (h (search tests)))

  message_fewer : (e : Event) → T (not (any (disables e) p.trust.certificates)) → Fewer p.trust (message e p).trust
  unfolding message
  message_fewer e h =
      let after : Certificate → Certificate = at third_party_root (λ c. enabling (enabled_by e c) c) in
      let none = none_out (disables e) p.trust.certificates h in
      fewer_by p.trust (message e p).trust
      (λ c m. record { certificate = after c; mem = Memᴰ.map after m; narrows = message_narrows e c (none c m) })

  -- ---- the changes that break no chain

  pub later_still : (t : ℕ) → any (runs_out p.trust.seen.clock t) p.trust.certificates ≡ false → settle (with_clock t p) ≡ with_clock t p
  later_still t h = widened_still (with_clock t p) (later_fewer t (subst (λ b. T (not b)) (sym h) tt)) refl

  pub come_still : (n : ℕ) → p.trust.seen.card ≡ 0 → settle (with_card n p) ≡ with_card n p
  come_still n z = widened_still (with_card n p) (come_fewer n z) refl

  pub enabling_still : (e : Event) → any (disables e) p.trust.certificates ≡ false → settle (message e p) ≡ message e p
  unfolding message
  enabling_still e h = widened_still (message e p) (message_fewer e (subst (λ b. T (not b)) (sym h) tt)) refl

  -- a mark given where none is taken
  pub marking_still : (e : Event) → on_a_card (certificate_named p e.id) ≡ false → settle (mark_valid e p) ≡ mark_valid e p
  unfolding mark_valid
  marking_still e h =
      widened_still (mark_valid e p)
      (more_map p.trust.seen p.trust.certificates (after_marking e.id (certificate_named p e.id))
      (λ c. marking_widens p.trust.seen e.id (certificate_named p e.id) c (subst (λ b. T (not b)) (sym h) tt)))
      refl

  pub filling_still : (e : Event) → settle (install_certificate e p) ≡ install_certificate e p
  unfolding install_certificate
  filling_still e = widened_still (install_certificate e p) (more_filled p ok (new_certificate p.mode e)) refl
