-- A withdrawing event leaves a lower phone. Assumes nothing.
use Prim.Native.Nat.{ℕ}
use mathlib.Core.{Bool.{Bool, cond, ◌&&◌, ◌||◌}, Logic.{◌≢◌, inl, inr}, Path.{◌≡◌, refl, subst, sym, ◌∙◌}}
use native.{Mathlib.Omega.arith, Mathlib.Nat.le_refl}
use lib.Dec.{T, eqb, nltb→le, lit<, eqb→eq}
use Rattle.bits.specs.Bits.{digit, has_bit, clear_bit}
use Rattle.bits.proofs.BitLaws.{digit_same, digit_other}
use Rattle.records.specs.Phone.{Seen, Phone, no_certificate, no_executable, marked, enabling, permitted, with_seen, with_clock, with_card, with_certificates}
use Rattle.records.specs.Phone.{with_executables}
use Rattle.records.specs.{declared.Certificate.Certificate, declared.Executable.Executable, declared.Event.Event}
use Rattle.rules.specs.{Words.{any, at, change}, ImageRules.third_party_root, Forms.{with_kind, listed}, Codes.{has_id, is_executable, time_back}}
use Rattle.rules.specs.{Effects.{enabled_by, effect, settle}, Demands.withdrawing}
use Rattle.rules.specs.After.{after}
use Rattle.laws.proofs.{Tests.{eq→eqb, neqb→ne, by_test}, Changes.at_cases}
use Rattle.keeping.proofs.{ByKind.{the_effects, by_withdrawing}, Unrefused.Unrefused, Done.after_cases}
use Rattle.keeping.proofs.{Order.{Fewer, Below, Under, below_refl, under_refl, under_trans}, Unharmed.Wider}
use Rattle.keeping.proofs.{Narrowing.{Narrows, narrows_marked, narrows_refl, narrows_free, fewer_map, fewer_seen, under_trust, under_map}, Settle.under_settle}

-- ---- certificates

-- some slots changed to what is good for less
fewer_change : (p : Phone) (t : Certificate → Bool) (f : Certificate → Certificate) → ((c : Certificate) → Narrows p.trust.seen p.trust.seen (f c) c)
    → Fewer (with_certificates (change t f p.trust.certificates) p).trust p.trust
fewer_change p t f h =
    let s = p.trust.seen in
    fewer_map s p.trust.certificates (at t f) (λ c. at_cases (Narrows s s) t f c (λ y. h c) (λ n. narrows_refl s c))

marking_narrows : (s : Seen) (c : Certificate) → Narrows s s (marked 0 c) c
marking_narrows s c = narrows_marked s c 0 c.enabled c.mark c.enabled (λ h. absurd (omega arith)) (λ h. h)

-- "mode 0 disable all"
disabled : (e : Event) (c : Certificate) → e.third ≡ 0 → enabled_by e c ≡ 0
unfolding enabled_by
disabled e c h = subst (λ m. ◌≡◌ {A = ℕ} (cond (eqb m 1 || (eqb m 2 && any (eqb c.id) (listed e))) 1 0) 0) (sym h) refl

disabling_narrows : (s : Seen) (e : Event) (c : Certificate) → e.third ≡ 0 → Narrows s s (enabling (enabled_by e c) c) c
disabling_narrows s e c h =
    narrows_marked s c c.mark (enabled_by e c) c.mark c.enabled (λ h. h) (λ one. absurd (omega (arith, disabled e c h)))

-- ---- permissions

clear_adds_none : (w k a : ℕ) → T (has_bit (clear_bit w k) a) → T (has_bit w a)
clear_adds_none w k a h = by_test (eqb a k) (λ t. same (eqb→eq a k t)) (λ t. eq→eqb (digit w a) 1 (sym (digit_other w k 0 a (lit< tt) (neqb→ne a k t)) ∙ one))
  where
    one : digit (clear_bit w k) a ≡ 1
    one = eqb→eq (digit (clear_bit w k) a) 1 h

    same : a ≡ k → T (has_bit w a)
    same e = absurd (omega (arith, one, subst (λ j. digit (clear_bit w k) j ≡ 0) (sym e) (digit_same w k 0 (lit< tt))))

clearing_below : (k : ℕ) (x : Executable) → Below (permitted (clear_bit x.permissions k) x) x
clearing_below k x = record { id = refl; signing = refl; domain = inr refl; permissions = clear_adds_none x.permissions k }

-- some executables changed to lower ones
under_change : (p : Phone) (t : Executable → Bool) (f : Executable → Executable) → ((x : Executable) → (f x).id ≢ 0 → Below (f x) x)
    → Under (with_executables (change t f p.executables) p) p
under_change p t f h = under_map p (at t f) (λ x. at_cases (λ lo hi. lo.id ≢ 0 → Below lo hi) t f x (λ y. h x) (λ n i. below_refl x))

-- ---- each withdrawing kind, but for settling

effect_under : (p : Phone) (e : Event) → Unrefused p e → T (withdrawing p e) → Under (effect e p) p
unfolding the_effects time_back
effect_under p e d w =
    by_withdrawing (λ k. Unrefused p (with_kind k e) → Under (effect (with_kind k e) p) p) p e
    (record {
      clock = λ d.
          let later = nltb→le e.key p.trust.seen.clock d.forward in
          under_seen (with_clock e.key p).trust.seen (record { clock = later; card = inl refl });
      card_out = λ d. under_seen (with_card 0 p).trust.seen (record { clock = le_refl _; card = inr refl });
      delete_certificate = λ d. under_trust _ p (fewer_change p (has_id e.id) (λ c. no_certificate) (narrows_free s)) refl refl;
      mark_invalid = λ d. under_trust _ p (fewer_change p (has_id e.id) (marked 0) (marking_narrows s)) refl refl;
      message = λ z d. under_trust _ p (disabled_fewer z) refl refl;
      delete_executable = λ d. under_change p (is_executable e.id) (λ x. no_executable) (λ x n. absurd (n refl));
      withdraw = λ d. under_change p (is_executable e.id) _ (λ x n. clearing_below e.second x);
    })
    w d
  where
    s : Seen
    s = p.trust.seen

    under_seen : (q : Seen) → Wider q p.trust.seen → Under (with_seen q p) p
    under_seen q w = under_trust (with_seen q p) p (fewer_seen q p.trust.seen p.trust.certificates w) refl refl

    disable : Certificate → Certificate
    disable c = enabling (enabled_by (with_kind 9 e) c) c

    disabled_fewer : e.third ≡ 0 → Fewer (with_certificates (change third_party_root disable p.trust.certificates) p).trust p.trust
    disabled_fewer z = fewer_change p third_party_root disable (λ c. disabling_narrows p.trust.seen (with_kind 9 e) c z)

pub withdrawing_under : (p : Phone) (e : Event) → T (withdrawing p e) → Under (after e p) p
withdrawing_under p e w =
    after_cases (λ q. Under q p) e p
    (λ d. under_trans (settle (effect e p)) (effect e p) p (under_settle (effect e p)) (effect_under p e d w))
    (λ r. under_refl p)
