-- What the demands speak of is neither narrower nor wider than its words: a valid operator root is one, and what no kind may touch is kept. Assumes nothing.
use Prim.Native.Nat.{ℕ, ◌≤◌}
use mathlib.Core.{Bool.{Bool, not, ◌&&◌, ◌||◌}, List.{List, [], ◌∷◌, ◌++◌, map, Memᴰ}, Logic.{◌⊎◌, inl, inr}, Path.{◌≡◌, refl, ap}}
use lib.Dec.{T, T_not, eqb, leb→le, le→leb}
use Rattle.bits.specs.Bits.{set_bit, clear_bit}
use Rattle.records.specs.Phone.{Seen, Trust, Phone, decode, no_certificate, no_executable, marked, enabling, in_domain, permitted}
use Rattle.records.specs.{declared.Certificate.Certificate, declared.Executable.Executable, declared.Event.Event}
use Rattle.rules.specs.{Chains.{present, in_date, valid_root, chain_of}, ImageRules.{valid_in, third_party_root}, Forms.new_certificate}
use Rattle.rules.specs.{Codes.certificate_named, Effects.{phone_operator_root, on_a_card, enabled_by, new_executable, replaced}, Computing.computing}
use Rattle.rules.specs.WorkedRun.{image}
use Rattle.laws.proofs.{Tests.{tests, eq→eqb, and_i, or_i, or_j}, Lists.all_out}
use Rattle.demands.specs.{Runs.ValidOperator, MayTouch.{CertificateKept, UpToSettling, ExecutableKept}}

-- ---- a valid operator root

here : (s : Seen) (c : Certificate) → (c.place ≡ 0) ⊎ (c.place ≡ s.card) → T (present s c)
unfolding present
here s c (inl h) = search tests
here s c (inr h) = search tests

-- a root of the operator's that is marked valid and not past its date, on the phone or the present card, is one
pub valid_operator : (p : Phone) (c : Certificate) → Memᴰ c p.trust.certificates → (c.place ≡ 0) ⊎ (c.place ≡ p.trust.seen.card)
    → c.kind ≡ 0 → c.domain ≡ 1 → c.mark ≡ 1 → p.trust.seen.clock ≤ c.expiry → ValidOperator p c
unfolding valid_in valid_root in_date
valid_operator p c m q k d v l =
    let h = here p.trust.seen c q in
    let i = le→leb p.trust.seen.clock c.expiry l in
    search tests

-- as is certificate 10 of 01's image
pub ten_is_valid : ValidOperator (decode image) (certificate_named (decode image) 10)
unfolding computing
ten_is_valid = valid_operator (decode image) (certificate_named (decode image) 10) (Memᴰ.head refl) (inl refl) refl refl refl (leb→le 100 1000 tt)

-- ---- in which ways a field may change: as the frames say, and in no other

-- how a test that holds in one of its parts is put together
ruleset shown = (or_i, or_j, and_i, eq→eqb)

-- a field f of a certificate slot before (c) and after (d) an event, a line for each way
abbrev certificate_shows : (Certificate → ℕ) → Phone → Event → Certificate → Certificate → Bool
certificate_shows f p e c d =
    eqb (f d) (f c)
    || ((eqb e.kind 2 || eqb e.kind 4 || (eqb e.kind 7 && on_a_card (certificate_named p e.id)))
    && phone_operator_root c
    && eqb (f d) (f (marked 0 c)))
    || (eqb e.kind 7 && eqb c.id e.id && eqb (f d) (f (marked 1 c)))
    || (eqb e.kind 8 && eqb c.id e.id && eqb (f d) (f (marked 0 c)))
    || (eqb e.kind 9 && third_party_root c && eqb (f d) (f (enabling (enabled_by e c) c)))
    || (eqb e.kind 5 && eqb c.id 0 && eqb (f d) (f (new_certificate p.mode e)))
    || (eqb e.kind 6 && eqb c.id e.id && eqb (f d) (f no_certificate))
    || (eqb e.kind 16 && eqb c.id e.id && eqb (f d) (f (replaced e c)))

certificate_shown : (f : Certificate → ℕ) (p : Phone) (e : Event) (c d : Certificate) → CertificateKept p e c d → T (certificate_shows f p e c d)
certificate_shown f p e c d (CertificateKept.same q) = let g = ap f q in search shown depth 13
certificate_shown f p e c d (CertificateKept.swept k t q) = let g = ap f q in search shown depth 13
certificate_shown f p e c d (CertificateKept.marked_valid k i q) = let g = ap f q in search shown depth 13
certificate_shown f p e c d (CertificateKept.marked_invalid k i q) = let g = ap f q in search shown depth 13
certificate_shown f p e c d (CertificateKept.enabled k t q) = let g = ap f q in search shown depth 13
certificate_shown f p e c d (CertificateKept.filled k i q) = let g = ap f q in search shown depth 13
certificate_shown f p e c d (CertificateKept.deleted k i q) = let g = ap f q in search shown depth 13
certificate_shown f p e c d (CertificateKept.renewed k i q) = let g = ap f q in search shown depth 13

-- the same of an executable slot (x, y)
abbrev settling_shows : (Executable → ℕ) → Executable → Executable → Bool
settling_shows f x y = eqb (f y) (f x) || eqb (f y) (f (in_domain 0 x))

settling_shown : (f : Executable → ℕ) (x y : Executable) → UpToSettling x y → T (settling_shows f x y)
settling_shown f x y (inl q) = let g = ap f q in search shown
settling_shown f x y (inr q) = let g = ap f q in search shown

abbrev executable_shows : (Executable → ℕ) → Trust → Event → Executable → Executable → Bool
executable_shows f t e x y =
    settling_shows f x y
    || (eqb e.kind 12 && eqb x.id e.id && eqb (f y) (f (in_domain (chain_of t x.signing).domain x)))
    || (eqb e.kind 13 && eqb x.id e.id && settling_shows f (permitted (set_bit x.permissions e.second) x) y)
    || (eqb e.kind 14 && eqb x.id e.id && settling_shows f (permitted (clear_bit x.permissions e.second) x) y)
    || (eqb e.kind 10 && eqb x.id 0 && eqb (f y) (f (new_executable e)))
    || (eqb e.kind 11 && eqb x.id e.id && eqb (f y) (f no_executable))

executable_shown : (f : Executable → ℕ) (t : Trust) (e : Event) (x y : Executable) → ExecutableKept t e x y → T (executable_shows f t e x y)
executable_shown f t e x y (ExecutableKept.same s) = search (shown, settling_shown) depth 12
executable_shown f t e x y (ExecutableKept.verified k i q) = let g = ap f q in search shown depth 13
executable_shown f t e x y (ExecutableKept.given k i s) = search (shown, settling_shown) depth 12
executable_shown f t e x y (ExecutableKept.withdrawn k i s) = search (shown, settling_shown) depth 12
executable_shown f t e x y (ExecutableKept.filled k i q) = let g = ap f q in search shown depth 13
executable_shown f t e x y (ExecutableKept.deleted k i q) = let g = ap f q in search shown depth 13

-- ---- what the frames forbid: an example for each kind

-- an event, a record before and after it, and the field in which the change would show
pub record Change (A : Type 0) : Type 0 where
  pub event : Event
  pub before : A
  pub after : A
  pub field : A → ℕ

abbrev changes : {A : Type 0} → Event → A → A → (A → ℕ) → Change A
changes e x y f = record { event = e; before = x; after = y; field = f }

abbrev event : ℕ → ℕ → ℕ → ℕ → ℕ → Event
event kind id second fourth key =
    record { kind = kind; actor = 0; id = id; second = second; third = 0; fourth = fourth; key = key; verifying = 0; owner = 0; expiry = 0 }

abbrev root : ℕ → ℕ → ℕ → ℕ → Certificate
root id place domain mark =
    record { id = id; place = place; kind = 0; domain = domain; mark = mark; enabled = 1; key = 1000; verifying = 0; owner = 500; expiry = 0 }

abbrev executable : ℕ → ℕ → ℕ → Executable
executable id domain permissions = record { id = id; domain = domain; blank = 0; signing = 1000; permissions = permissions }

abbrev pub certificate_changes : List (Change Certificate)
certificate_changes =
    -- 1: the clock deletes nothing
    changes (event 1 0 0 0 200) (root 10 0 1 1) no_certificate (λ c. c.id)
    -- 2: a card that comes marks nothing valid, its own root neither
    ∷ changes (event 2 0 2 0 0) (root 20 2 1 0) (root 20 2 1 1) (λ c. c.mark)
    -- 3: nor does the phone's root come back when the card leaves
    ∷ changes (event 3 0 0 0 0) (root 10 0 1 0) (root 10 0 1 1) (λ c. c.mark)
    -- 4: power up takes no mark of a root on a card
    ∷ changes (event 4 0 2 0 0) (root 20 2 1 1) (root 20 2 1 0) (λ c. c.mark)
    -- 5: an operator root is not valid when it is installed
    ∷ changes (event 5 10 0 1 1000) no_certificate (root 10 0 1 1) (λ c. c.mark)
    -- 6, 7, 8: no other than the one named is deleted, is marked valid, is marked invalid
    ∷ changes (event 6 10 0 0 0) (root 30 0 3 1) no_certificate (λ c. c.id)
    ∷ changes (event 7 10 0 0 0) (root 30 0 3 0) (root 30 0 3 1) (λ c. c.mark)
    ∷ changes (event 8 10 0 0 0) (root 30 0 3 1) (root 30 0 3 0) (λ c. c.mark)
    -- 7: marking what is not on a card takes no mark from an operator root on the phone
    ∷ changes (event 7 10 0 0 0) (root 11 0 1 1) (root 11 0 1 0) (λ c. c.mark)
    -- 9: a message changes no mark
    ∷ changes (event 9 0 0 0 0) (root 30 0 3 1) (root 30 0 3 0) (λ c. c.mark)
    -- 16: no other than the root named is marked valid, its recovery record neither
    ∷ changes (event 16 10 40 0 1002) (root 40 0 1 0) (root 40 0 1 1) (λ c. c.mark)
    ∷ []

abbrev pub executable_changes : List (Change Executable)
executable_changes =
    -- 10: an executable has no domain when it is installed
    changes (event 10 1 0 0 1000) no_executable (executable 1 1 0) (λ x. x.domain)
    -- 11: no other than the one named is deleted
    ∷ changes (event 11 1 0 0 0) (executable 2 0 0) no_executable (λ x. x.id)
    -- 12: verify gives no permission
    ∷ changes (event 12 1 0 0 0) (executable 1 0 0) (executable 1 0 1) (λ x. x.permissions)
    -- 13, 14: no permission for another action is given or withdrawn
    ∷ changes (event 13 1 0 0 0) (executable 1 0 0) (executable 1 0 2) (λ x. x.permissions)
    ∷ changes (event 14 1 0 0 0) (executable 1 0 2) (executable 1 0 0) (λ x. x.permissions)
    -- 15: a request changes no domain into another
    ∷ changes (event 15 1 0 0 0) (executable 1 1 0) (executable 1 2 0) (λ x. x.domain)
    ∷ []

pub every_kind : (map (λ r. r.event.kind) certificate_changes ++ map (λ r. r.event.kind) executable_changes)
    ≡ (1 ∷ 2 ∷ 3 ∷ 4 ∷ 5 ∷ 6 ∷ 7 ∷ 8 ∷ 7 ∷ 9 ∷ 16 ∷ 10 ∷ 11 ∷ 12 ∷ 13 ∷ 14 ∷ 15 ∷ [])
every_kind = refl

-- there is no certificate
abbrev no_trust : Trust
no_trust = record { seen = record { clock = 0; card = 0 }; certificates = [] }

-- and the standing mode is 0
abbrev no_phone : Phone
no_phone = record { mode = 0; trust = no_trust; cards = []; executables = []; table = [] }

pub certificate_forbidden : (r : Change Certificate) → Memᴰ r certificate_changes → CertificateKept no_phone r.event r.before r.after → ⊥
unfolding computing
certificate_forbidden r m k =
    T_not (shows r) (all_out (λ r. not (shows r)) certificate_changes tt r m)
    (certificate_shown r.field no_phone r.event r.before r.after k)
  where
    shows : Change Certificate → Bool
    shows r = certificate_shows r.field no_phone r.event r.before r.after

pub executable_forbidden : (r : Change Executable) → Memᴰ r executable_changes → ExecutableKept no_trust r.event r.before r.after → ⊥
unfolding computing
executable_forbidden r m k =
    T_not (shows r) (all_out (λ r. not (shows r)) executable_changes tt r m) (executable_shown r.field no_trust r.event r.before r.after k)
  where
    shows : Change Executable → Bool
    shows r = executable_shows r.field no_trust r.event r.before r.after
