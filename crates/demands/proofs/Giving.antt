-- A giving event leaves a higher phone, where the phone before it is accepted. Assumes nothing.
use Prim.Native.Nat.{ℕ}
use mathlib.Core.{Bool.{Bool, true, false, cond, ◌&&◌, ◌||◌}, List.{List, Memᴰ}, Logic.{◌≢◌, inl, inr}, Path.{◌≡◌, refl, subst, sym, ◌∙◌}}
use lib.Dec.{T, eqb, lit<, eqb→eq}
use Rattle.bits.specs.Bits.{digit, has_bit, set_bit}
use Rattle.bits.proofs.BitLaws.{digit_same, digit_other}
use Rattle.records.specs.{Phone.{Seen, Phone, with_executables, enabling, in_domain, permitted}, declared.Certificate.Certificate}
use Rattle.records.specs.{declared.Executable.Executable, declared.Event.Event}
use Rattle.rules.specs.{Words.{any, at, change, fill}, Chains.{chain_domain, chain_of}, ImageRules.{free_executable, third_party_root}}
use Rattle.rules.specs.{Forms.{with_kind, new_certificate, listed}, Codes.{is_executable, certificate_named}, Effects.{after_marking, enabled_by, effect}}
use Rattle.rules.specs.Demands.{giving}
use Rattle.rules.specs.After.{after}
use Rattle.laws.proofs.{Tests.{eq→eqb, neqb→ne, ne→neqb, by_test}, Lists.fill_keeps, Changes.at_cases, Accepted.Accepted, Domain.chain_domain_is}
use Rattle.keeping.proofs.{ByKind.{the_effects, by_kind}, Unrefused.Unrefused, Done.after_cases}
use Rattle.keeping.proofs.{Order.{Below, Under, fewer_refl, below_refl, over_itself, under_refl}, Naming.small_domain}
use Rattle.keeping.proofs.{Narrowing.{more_filled, marking_widens, Narrows, narrows_marked, narrows_refl, more_map, under_trust, over_map}, Settle.over_settle}

-- ---- certificates

-- "1 enable all"
enabled : (e : Event) (c : Certificate) → e.third ≡ 1 → enabled_by e c ≡ 1
unfolding enabled_by
enabled e c h = subst (λ m. ◌≡◌ {A = ℕ} (cond (eqb m 1 || (eqb m 2 && any (eqb c.id) (listed e))) 1 0) 1) (sym h) refl

enabling_widens : (s : Seen) (e : Event) (c : Certificate) → e.third ≡ 1 → Narrows s s c (at third_party_root (λ c. enabling (enabled_by e c) c) c)
enabling_widens s e c h =
    at_cases (λ hi lo. Narrows s s lo hi) third_party_root (λ c. enabling (enabled_by e c) c) c
    (λ t. narrows_marked s c c.mark c.enabled c.mark (enabled_by e c) (λ m. m) (λ m. enabled e c h))
    (λ n. narrows_refl s c)

-- ---- executables

set_keeps : (w k a : ℕ) → T (has_bit w a) → T (has_bit (set_bit w k) a)
set_keeps w k a h = eq→eqb (digit (set_bit w k) a) 1 (by_test (eqb a k) (λ t. same (eqb→eq a k t)) (λ t. other (neqb→ne a k t)))
  where
    same : a ≡ k → digit (set_bit w k) a ≡ 1
    same e = subst (λ j. digit (set_bit w k) j ≡ 1) (sym e) (digit_same w k 1 (lit< tt))

    other : a ≢ k → digit (set_bit w k) a ≡ 1
    other n = digit_other w k 1 a (lit< tt) n ∙ eqb→eq (digit w a) 1 h

setting_over : (k : ℕ) (x : Executable) → Below x (permitted (set_bit x.permissions k) x)
setting_over k x = record { id = refl; signing = refl; domain = inr refl; permissions = set_keeps x.permissions k }

-- verify finds the domain that an executable has
verifying_over : (p : Phone) → Accepted p → (x : Executable) → Memᴰ x p.executables → Below x (in_domain (chain_domain p.trust x.signing) x)
verifying_over p ok x m =
    record {
      id = refl;
      signing = refl;
      domain = by_test (eqb x.domain 0) (λ t. inl (eqb→eq x.domain 0 t)) (λ t. inr (sym (found (neqb→ne x.domain 0 t))));
      permissions = λ a h. h;
    }
  where
    found : x.domain ≢ 0 → chain_domain p.trust x.signing ≡ x.domain
    found nz =
        chain_domain_is p.trust ok.trust.held.keys x.signing x.domain nz (small_domain p ok x m) (ok.chained x m nz)

-- some executables changed to higher ones
over_change : (p : Phone) (t : Executable → Bool) (f : Executable → Executable) → ((x : Executable) → Memᴰ x p.executables → Below x (f x))
    → Under p (with_executables (change t f p.executables) p)
over_change p t f h = over_map p (at t f) (λ x m. at_cases (λ hi lo. Below lo hi) t f x (λ y. h x m) (λ n. below_refl x))

over_filled : (p : Phone) (x : Executable) → Under p (with_executables (fill free_executable x p.executables) p)
over_filled p new =
    let q = with_executables (fill free_executable new p.executables) p in
    record {
      trust = fewer_refl p.trust;
      executables = λ x m n. over_itself q x (fill_keeps free_executable new p.executables x m (ne→neqb x.id 0 n));
      table = refl;
    }

-- ---- each giving kind, but for settling

or_false : (a : Bool) → T (a || false) → T a
or_false true h = tt
or_false false h = h

effect_over : (p : Phone) → Accepted p → (e : Event) → Unrefused p e → T (giving p e) → Under p (effect e p)
unfolding giving the_effects chain_of
effect_over p ok e d g =
    by_kind (λ k. T (giving p (with_kind k e)) → Under p (effect (with_kind k e) p))
    (record {
      clock = λ g. absurd g;
      card_in = λ g. absurd g;
      card_out = λ g. absurd g;
      power_up = λ g. absurd g;
      install_certificate = λ g. under_trust p _ (more_filled p ok (new_certificate p.mode (with_kind 5 e))) refl refl;
      delete_certificate = λ g. absurd g;
      mark_valid = λ g. under_trust p _ (more_map s l (after_marking e.id r) (λ c. marking_widens s e.id r c g)) refl refl;
      mark_invalid = λ g. absurd g;
      message = λ g.
          let all : e.third ≡ 1 = eqb→eq e.third 1 (or_false (eqb e.third 1) g) in
          under_trust p _ (more_map s l _ (λ c. enabling_widens s (with_kind 9 e) c all)) refl refl;
      install_executable = λ g. over_filled p _;
      delete_executable = λ g. absurd g;
      verify = λ g. over_change p (is_executable e.id) _ (verifying_over p ok);
      give = λ g. over_change p (is_executable e.id) _ (λ x m. setting_over e.second x);
      withdraw = λ g. absurd g;
      request = λ g. absurd g;
      replace = λ g. absurd g;
    })
    e.kind p e d.formed g
  where
    s : Seen
    s = p.trust.seen

    l : List Certificate
    l = p.trust.certificates

    r : Certificate
    r = certificate_named p e.id

pub giving_over : (p : Phone) → Accepted p → (e : Event) → T (giving p e) → Under p (after e p)
giving_over p ok e g =
    after_cases (Under p) e p (λ d. over_settle p (effect e p) ok (effect_over p ok e d g)) (λ r. under_refl p)
