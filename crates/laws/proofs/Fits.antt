-- The tests of one record say what its proposition says. Assumes nothing.
use Prim.Native.Nat.{ℕ, ◌+◌, ◌≤◌}
use mathlib.Core.{Bool.◌||◌, Logic.{◌≢◌, ◌⊎◌, inl, inr}, Path.{◌≡◌, subst, sym}}
use native.Mathlib.Omega.{arith}
use lib.Dec.{T, eqb, leb→le, le→leb, ltb→lt, lt→ltb, eqb→eq}
use Rattle.records.specs.{Phone.{no_certificate, no_executable}, declared.Certificate.Certificate, declared.Card.Card, declared.Executable.Executable}
use Rattle.rules.specs.Words.{◌implies◌, all_zero}
use Rattle.rules.specs.ImageRules.{free_certificate, free_executable, zero_certificate, certificate_ranges, root_fits, issued_fits, recovery_fits}
use Rattle.rules.specs.ImageRules.{certificate_fits, zero_executable, executable_fits, slot_fits, card_fits, executable_slot_fits}
use Rattle.laws.proofs.Tests.{tests, eq→eqb, neqb→ne, ne→neqb, and_i, or_i, or_cases, by_test, cond_no, yes_cond, no_cond, implies_out, implies_in}
use Rattle.laws.proofs.Accepted.{Occupied, Named, Stored}

-- orders among the tests
ruleset ranges = (tests, leb→le, le→leb, ltb→lt, lt→ltb)

-- ---- I2

sum_of : Certificate → ℕ
sum_of c =
    c.id + (c.place + (c.kind + (c.domain + (c.mark + (c.enabled + (c.key + (c.verifying + (c.owner + (c.expiry + 0)))))))))

no_certificate_out : (c : Certificate) → T (zero_certificate c) → c ≡ no_certificate
unfolding zero_certificate all_zero sum_of
no_certificate_out c h =
    let s : sum_of c ≡ 0 = eqb→eq (sum_of c) 0 h in
    let z : (n : ℕ) → n ≤ sum_of c → n ≡ 0 = (λ n l. omega arith) in
    λ i. record {
      id = z c.id (omega arith) i;
      place = z c.place (omega arith) i;
      kind = z c.kind (omega arith) i;
      domain = z c.domain (omega arith) i;
      mark = z c.mark (omega arith) i;
      enabled = z c.enabled (omega arith) i;
      key = z c.key (omega arith) i;
      verifying = z c.verifying (omega arith) i;
      owner = z c.owner (omega arith) i;
      expiry = z c.expiry (omega arith) i;
    }

root_out : (c : Certificate) → T (root_fits c) → (c.verifying ≡ 0) × (c.domain ≡ 2 → c.place ≡ 0) × (c.domain ≢ 3 → c.enabled ≡ 1)
unfolding root_fits
root_out c h = (search tests, λ e. eqb→eq c.place 0 (implies_out (eqb c.domain 2) (eqb c.place 0) (search tests) (eq→eqb c.domain 2 e)), on)
  where
    on : c.domain ≢ 3 → c.enabled ≡ 1
    on n = go (or_cases (eqb c.enabled 1) (eqb c.domain 3) (search tests))
      where
        go : T (eqb c.enabled 1) ⊎ T (eqb c.domain 3) → c.enabled ≡ 1
        go (inl t) = eqb→eq c.enabled 1 t
        go (inr t) = absurd (n (eqb→eq c.domain 3 t))

root_in : (c : Certificate) → (c.verifying ≡ 0) × (c.domain ≡ 2 → c.place ≡ 0) × (c.domain ≢ 3 → c.enabled ≡ 1) → T (root_fits c)
unfolding root_fits
root_in c o =
    let v : c.verifying ≡ 0 = o.0 in
    let a : T (eqb c.domain 2 implies eqb c.place 0) =
    implies_in (eqb c.domain 2) (eqb c.place 0) (λ t. eq→eqb c.place 0 (o.1 (eqb→eq c.domain 2 t))) in
    let b : T (eqb c.enabled 1 || eqb c.domain 3) =
    by_test (eqb c.domain 3) (λ t. search tests)
    (λ t. or_i (eqb c.enabled 1) (eqb c.domain 3) (eq→eqb c.enabled 1 (o.2 (neqb→ne c.domain 3 t)))) in
    search tests

issued_out : (c : Certificate) → T (issued_fits c) → (c.verifying ≢ 0) × (c.mark ≡ 1) × (c.enabled ≡ 1)
unfolding issued_fits
issued_out c h = (search tests, search tests, search tests)

issued_in : (c : Certificate) → (c.verifying ≢ 0) × (c.mark ≡ 1) × (c.enabled ≡ 1) → T (issued_fits c)
unfolding issued_fits
issued_in c o = search tests

recovery_out : (c : Certificate) → T (recovery_fits c)
    → (c.place ≡ 0) × (c.domain ≤ 2) × (c.verifying ≡ 0) × (c.mark ≡ 0) × (c.enabled ≡ 1)
unfolding recovery_fits
recovery_out c h = (search tests depth 7, search ranges depth 7, search tests depth 7, search tests depth 7, search tests depth 7)

recovery_in : (c : Certificate) → (c.place ≡ 0) × (c.domain ≤ 2) × (c.verifying ≡ 0) × (c.mark ≡ 0) × (c.enabled ≡ 1)
    → T (recovery_fits c)
unfolding recovery_fits
recovery_in c o = search (and_i, eq→eqb, le→leb, o.0, o.1, o.2, o.3, o.4) depth 10

ranges_out : (c : Certificate) → T (certificate_ranges c)
    → (c.id ≢ 0) × (c.key ≢ 0) × (c.kind ≤ 2) × ((1 ≤ c.domain) × (c.domain ≤ 3)) × (c.mark ≤ 1) × (c.enabled ≤ 1)
unfolding certificate_ranges
ranges_out c h = (
  search tests depth 9,
  search tests depth 9,
  search ranges depth 9,
  (search ranges depth 9, search ranges depth 9),
  search ranges depth 9,
  search ranges depth 9,
)

pub occupied_out : (c : Certificate) → T (certificate_fits c) → Occupied c
unfolding certificate_fits
occupied_out c h =
    let r = ranges_out c (search tests) in
    record {
      id = r.0;
      key = r.1;
      kind = r.2;
      domain = r.3;
      mark = r.4;
      enabled = r.5;
      root = λ e. root_out c (implies_out (eqb c.kind 0) (root_fits c) (search tests) (eq→eqb c.kind 0 e));
      issued = λ e. issued_out c (implies_out (eqb c.kind 1) (issued_fits c) (search tests) (eq→eqb c.kind 1 e));
      recovery = λ e. recovery_out c (implies_out (eqb c.kind 2) (recovery_fits c) (search tests) (eq→eqb c.kind 2 e));
    }

occupied_in : (c : Certificate) → Occupied c → T (certificate_fits c)
unfolding certificate_fits certificate_ranges
occupied_in c o =
    let a : T (eqb c.kind 0 implies root_fits c) = implies_in (eqb c.kind 0) (root_fits c) (λ t. root_in c (o.root (eqb→eq c.kind 0 t))) in
    let b : T (eqb c.kind 1 implies issued_fits c) = implies_in (eqb c.kind 1) (issued_fits c) (λ t. issued_in c (o.issued (eqb→eq c.kind 1 t))) in
    let d : T (eqb c.kind 2 implies recovery_fits c) =
    implies_in (eqb c.kind 2) (recovery_fits c) (λ t. recovery_in c (o.recovery (eqb→eq c.kind 2 t))) in
    let r : T (certificate_ranges c) = search (and_i, ne→neqb, le→leb, o.id, o.key, o.kind, o.domain.0, o.domain.1, o.mark, o.enabled) depth 12 in
    search and_i

pub slot_out : (c : Certificate) → T (slot_fits c) → (c ≡ no_certificate) ⊎ Occupied c
slot_out c h =
    by_test (free_certificate c)
    (λ t. inl (no_certificate_out c (yes_cond (free_certificate c) (zero_certificate c) (certificate_fits c) h t)))
    (λ t. inr (occupied_out c (no_cond (free_certificate c) (zero_certificate c) (certificate_fits c) h t)))

pub slot_in : (c : Certificate) → (c ≡ no_certificate) ⊎ Occupied c → T (slot_fits c)
unfolding zero_certificate all_zero
slot_in c (inl z) = subst (λ c. T (slot_fits c)) (sym z) tt
slot_in c (inr o) = cond_no (free_certificate c) (zero_certificate c) (certificate_fits c) (ne→neqb c.id 0 o.id) (occupied_in c o)

-- ---- I3

pub named_out : (k : Card) → T (card_fits k) → Named k
named_out k h = record { number = search tests; blank = search tests }

pub named_in : (k : Card) → Named k → T (card_fits k)
named_in k n = search tests

-- ---- I7

no_executable_out : (x : Executable) → T (zero_executable x) → x ≡ no_executable
unfolding zero_executable all_zero
no_executable_out x h =
    let s : x.id + (x.domain + (x.blank + (x.signing + (x.permissions + 0)))) ≡ 0 = eqb→eq _ 0 h in
    let a : x.id ≡ 0 = omega arith in
    let b : x.domain ≡ 0 = omega arith in
    let c : x.blank ≡ 0 = omega arith in
    let d : x.signing ≡ 0 = omega arith in
    let e : x.permissions ≡ 0 = omega arith in
    λ i. record { id = a i; domain = b i; blank = c i; signing = d i; permissions = e i }

stored_out : (n : ℕ) (x : Executable) → x.id ≢ 0 → T (executable_fits n x) → Stored n x
unfolding executable_fits
stored_out n x nz h = record { id = nz; domain = search ranges; blank = search tests; permissions = search ranges }

stored_in : (n : ℕ) (x : Executable) → Stored n x → T (executable_fits n x)
unfolding executable_fits
stored_in n x s = search (and_i, eq→eqb, le→leb, s.domain, s.blank, s.permissions)

pub executable_out : (n : ℕ) (x : Executable) → T (executable_slot_fits n x) → (x ≡ no_executable) ⊎ Stored n x
executable_out n x h =
    by_test (free_executable x)
    (λ t. inl (no_executable_out x (yes_cond (free_executable x) (zero_executable x) (executable_fits n x) h t)))
    (λ t. inr (stored_out n x (neqb→ne x.id 0 t) (no_cond (free_executable x) (zero_executable x) (executable_fits n x) h t)))

pub executable_in : (n : ℕ) (x : Executable) → (x ≡ no_executable) ⊎ Stored n x → T (executable_slot_fits n x)
unfolding zero_executable all_zero
executable_in n x (inl z) = subst (λ x. T (executable_slot_fits n x)) (sym z) tt
executable_in n x (inr s) = cond_no (free_executable x) (zero_executable x) (executable_fits n x) (ne→neqb x.id 0 s.id) (stored_in n x s)
