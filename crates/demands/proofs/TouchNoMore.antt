-- What an event that is done may touch, kind by kind: all else is kept. Assumes nothing.
use Prim.Native.Nat.{ℕ}
use mathlib.Core.{Bool.{Bool, true, false, cond, not, ◌&&◌}, List.List, Logic.{◌≢◌, inl, inr}, Path.{◌≡◌, refl, ap}}
use lib.{Dec.{T, T_not, eqb, eqb→eq}, ListN.{get_or, get_or-map}}
use Rattle.records.specs.Phone.{Trust, Phone, no_certificate, no_executable, certificate_at, executable_at, with_certificates, with_executables, with_card}
use Rattle.records.specs.Phone.{marked, in_domain}
use Rattle.records.specs.{declared.Certificate.Certificate, declared.Executable.Executable, declared.Event.Event}
use Rattle.rules.specs.{Words.{between, at, change}, ImageRules.{free_certificate, free_executable, third_party_root}, Forms.with_kind}
use Rattle.rules.specs.Codes.{has_id, is_executable, certificate_named, code_of}
use Rattle.rules.specs.Effects.{phone_operator_root, retired, card_rule, card_in, card_out, power_up, on_a_card, after_marking, mark_valid, replaced, effect}
use Rattle.rules.specs.Effects.{settled, settle, changed}
use Rattle.laws.proofs.{Tests.tests, Changes.{at_cases, map_at, change_at, fill_at}}
use Rattle.demands.specs.MayTouch.{CertificateKept, UpToSettling, ExecutableKept, FramedChange}
use Rattle.keeping.proofs.{ByKind.{the_effects, by_kind}, Unrefused.unrefused, ExecutablesKept.settled_cases, Shape.shape_changed}

-- ---- what an effect may touch, before settling

record Touched (e : Event) (p q : Phone) : Type 0 where
  clock : e.kind ≢ 1 → q.trust.seen.clock ≡ p.trust.seen.clock
  card : T (not (between 2 4 e.kind)) → q.trust.seen.card ≡ p.trust.seen.card
  mode : e.kind ≢ 9 → q.mode ≡ p.mode
  certificates : (i : ℕ) → CertificateKept p e (certificate_at p i) (certificate_at q i)
  executables : (i : ℕ) → ExecutableKept p.trust e (executable_at p i) (executable_at q i)

-- one certificate, and one executable, that no kind touches
kept : {p : Phone} {e : Event} (c : Certificate) → CertificateKept p e c c
kept c = CertificateKept.same refl

stays : {t : Trust} {e : Event} (x : Executable) → ExecutableKept t e x x
stays x = ExecutableKept.same (inl refl)

-- certificates alone, and executables alone
of_certificates : (e : Event) (p : Phone) (l : List Certificate)
    → ((i : ℕ) → CertificateKept p e (certificate_at p i) (get_or l i no_certificate)) → Touched e p (with_certificates l p)
of_certificates e p l h =
    record { clock = λ n. refl; card = λ n. refl; mode = λ n. refl; certificates = h; executables = λ i. stays (executable_at p i) }

of_executables : (e : Event) (p : Phone) (l : List Executable)
    → ((i : ℕ) → ExecutableKept p.trust e (executable_at p i) (get_or l i no_executable)) → Touched e p (with_executables l p)
of_executables e p l h =
    record { clock = λ n. refl; card = λ n. refl; mode = λ n. refl; certificates = λ i. kept (certificate_at p i); executables = h }

-- certificates changed where a test holds; the executable of a number changed
certificates_at : (e : Event) (p : Phone) (t : Certificate → Bool) (f : Certificate → Certificate)
    → ((c : Certificate) → T (t c) → CertificateKept p e c (f c))
    → (i : ℕ) → CertificateKept p e (certificate_at p i) (get_or (change t f p.trust.certificates) i no_certificate)
certificates_at e p t f h = change_at (CertificateKept p e) t f no_certificate p.trust.certificates kept h

executable_named_at : (e : Event) (p : Phone) (f : Executable → Executable) → ((x : Executable) → x.id ≡ e.id → ExecutableKept p.trust e x (f x))
    → Touched e p (with_executables (change (is_executable e.id) f p.executables) p)
executable_named_at e p f h =
    of_executables e p _
    (change_at (ExecutableKept p.trust e) (is_executable e.id) f no_executable p.executables stays (λ x t. h x (eqb→eq x.id e.id t)))

-- another card, by an event that may change it
of_card : (e : Event) (p : Phone) (n : ℕ) (l : List Certificate) → T (between 2 4 e.kind)
    → ((i : ℕ) → CertificateKept p e (certificate_at p i) (get_or l i no_certificate))
    → Touched e p (with_certificates l (with_card n p))
of_card e p n l k h =
    record {
      clock = λ n. refl;
      card = λ n. absurd (T_not (between 2 4 e.kind) n k);
      mode = λ n. refl;
      certificates = h;
      executables = λ i. stays (executable_at p i);
    }

-- the card rule, by an event that may take the marks of operator roots
of_card_in : (e : Event) (p : Phone) → T (between 2 4 e.kind)
    → ((c : Certificate) → T (phone_operator_root c) → CertificateKept p e c (marked 0 c)) → Touched e p (card_in e p)
unfolding card_in card_rule retired
of_card_in e p k h =
    of_card e p e.second _ k (certificates_at e p (retired (with_card e.second p)) (marked 0) (λ c t. h c (search tests)))

of_power_up : (e : Event) (p : Phone) → Touched (with_kind 4 e) p (power_up (with_kind 4 e) p)
unfolding power_up card_out
of_power_up e p = go (eqb e.second 0)
  where
    go : (b : Bool) → Touched (with_kind 4 e) p (cond b (card_out (with_kind 4 e) p) (card_in (with_kind 4 e) p))
    go true = of_card (with_kind 4 e) p 0 p.trust.certificates tt (λ i. kept _)
    go false = of_card_in (with_kind 4 e) p tt (λ c t. CertificateKept.swept tt t refl)

of_mark_valid : (e : Event) (p : Phone) → Touched (with_kind 7 e) p (mark_valid (with_kind 7 e) p)
unfolding mark_valid after_marking
of_mark_valid e p =
    of_certificates (with_kind 7 e) p _
    (map_at (CertificateKept p (with_kind 7 e)) (after_marking e.id r) no_certificate p.trust.certificates (kept _)
    (λ c. go c (has_id e.id c) (λ t. t)))
  where
    r : Certificate
    r = certificate_named p e.id

    go : (c : Certificate) (b : Bool) → (T b → T (has_id e.id c))
        → CertificateKept p (with_kind 7 e) c (cond b (marked 1 c) (at (λ c. on_a_card r && phone_operator_root c) (marked 0) c))
    go c true h = CertificateKept.marked_valid refl (eqb→eq c.id e.id (h tt)) refl
    go c false h =
        at_cases (λ lo hi. CertificateKept p (with_kind 7 e) hi lo) (λ c. on_a_card r && phone_operator_root c) (marked 0) c
        (λ t. CertificateKept.swept (search tests) (search tests) refl) (λ t. kept _)

touched : (e : Event) (p : Phone) → T (eqb (code_of p e) 0) → Touched e p (effect e p)
unfolding the_effects
touched e p h =
    by_kind (λ k. Touched (with_kind k e) p (effect (with_kind k e) p))
    (record {
      clock = record { clock = λ n. absurd (n refl); card = λ n. refl; mode = λ n. refl; certificates = λ i. kept _; executables = λ i. stays _ };
      card_in = of_card_in (with_kind 2 e) p tt (λ c t. CertificateKept.swept tt t refl);
      card_out = of_card (with_kind 3 e) p 0 certificates tt (λ i. kept _);
      power_up = of_power_up e p;
      install_certificate =
          of_certificates (with_kind 5 e) p _
          (fill_at (CertificateKept p (with_kind 5 e)) free_certificate _ no_certificate certificates kept
          (λ c t. CertificateKept.filled refl (eqb→eq c.id 0 t) refl));
      delete_certificate =
          of_certificates (with_kind 6 e) p _
          (certificates_at (with_kind 6 e) p (has_id e.id) _ (λ c t. CertificateKept.deleted refl (eqb→eq c.id e.id t) refl));
      mark_valid = of_mark_valid e p;
      mark_invalid =
          of_certificates (with_kind 8 e) p _
          (certificates_at (with_kind 8 e) p (has_id e.id) (marked 0) (λ c t. CertificateKept.marked_invalid refl (eqb→eq c.id e.id t) refl));
      message = record {
        clock = λ n. refl;
        card = λ n. refl;
        mode = λ n. absurd (n refl);
        certificates = certificates_at (with_kind 9 e) p third_party_root _ (λ c t. CertificateKept.enabled refl t refl);
        executables = λ i. stays _;
      };
      install_executable =
          of_executables (with_kind 10 e) p _
          (fill_at (ExecutableKept p.trust (with_kind 10 e)) free_executable _ no_executable p.executables stays
          (λ x t. ExecutableKept.filled refl (eqb→eq x.id 0 t) refl));
      delete_executable = executable_named_at (with_kind 11 e) p _ (λ x i. ExecutableKept.deleted refl i refl);
      verify = executable_named_at (with_kind 12 e) p _ (λ x i. ExecutableKept.verified refl i refl);
      give = executable_named_at (with_kind 13 e) p _ (λ x i. ExecutableKept.given refl i (inl refl));
      withdraw = executable_named_at (with_kind 14 e) p _ (λ x i. ExecutableKept.withdrawn refl i (inl refl));
      request = of_executables (with_kind 15 e) p p.executables (λ i. stays _);
      replace =
          of_certificates (with_kind 16 e) p _
          (certificates_at (with_kind 16 e) p (has_id e.id) (replaced (with_kind 16 e))
          (λ c t. CertificateKept.renewed refl (eqb→eq c.id e.id t) refl));
    })
    e.kind p e (unrefused p e h).formed
  where
    certificates : List Certificate
    certificates = p.trust.certificates

-- ---- settling makes a domain 0, and touches nothing else

lost : {x y : Executable} → UpToSettling x y → UpToSettling x (in_domain 0 y)
lost (inl q) = inr (ap (in_domain 0) q)
lost (inr q) = inr (ap (in_domain 0) q)

lowered : (t : Trust) (e : Event) (x y : Executable) → ExecutableKept t e x y → ExecutableKept t e x (in_domain 0 y)
lowered t e x y (ExecutableKept.same s) = ExecutableKept.same (lost s)
lowered t e x y (ExecutableKept.verified k i q) = ExecutableKept.same (inr (ap (in_domain 0) q))
lowered t e x y (ExecutableKept.given k i s) = ExecutableKept.given k i (lost s)
lowered t e x y (ExecutableKept.withdrawn k i s) = ExecutableKept.withdrawn k i (lost s)
lowered t e x y (ExecutableKept.filled k i q) = ExecutableKept.filled k i (ap (in_domain 0) q)
lowered t e x y (ExecutableKept.deleted k i q) = ExecutableKept.deleted k i (ap (in_domain 0) q)

settle_at : (t : Trust) (e : Event) (x : Executable) (q : Phone) (i : ℕ)
    → ExecutableKept t e x (executable_at q i) → ExecutableKept t e x (executable_at (settle q) i)
unfolding settle settled
settle_at t e x q i k =
    rw (get_or-map (settled q.trust) q.executables i no_executable)
    (settled_cases (ExecutableKept t e x) q.trust (executable_at q i) (λ h. k) (λ d h. lowered t e x (executable_at q i) k))

-- ---- and so an event

pub framed_changed : (e : Event) (p : Phone) → T (eqb (code_of p e) 0) → FramedChange e p (changed e p)
unfolding changed settle
framed_changed e p h =
    let t = touched e p h in
    let s = shape_changed e p in
    record {
      cards = s.cards;
      table = s.table;
      clock = t.clock;
      card = t.card;
      mode = t.mode;
      certificate_slots = s.certificates;
      certificates = t.certificates;
      executable_slots = s.executables;
      executables = λ i. settle_at p.trust e (executable_at p i) (effect e p) i (t.executables i);
    }
