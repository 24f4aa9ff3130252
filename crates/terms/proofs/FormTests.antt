-- The form of each kind as the code tests it, and what a form that fits is worth. Assumes nothing.
use Prim.Native.Nat.{ℕ, ◌+◌, ◌≤◌, ◌<◌}
use mathlib.Core.{Bool.{Bool, true, false, cond, not, ◌&&◌, ◌||◌, true≢false}, List.{[], ◌∷◌}, Path.{◌≡◌, refl, subst, sym, ap, ap₂, ◌∙◌}}
use native.Mathlib.Omega.{arith}
use borrow.Author.Tests.{le-leb, lt-leb, not-false}
use Rattle.std.specs.Int.{from_bool}
use lib.{Dec.{T, eqb, eqb→eq, leb, ltb, ltb→lt, leb→le, nleb→lt}, ListN.length}
use Rattle.records.specs.{Phone.Phone, declared.Certificate.Certificate, declared.Event.Event}
use Rattle.rules.specs.{Words.{between, all, all_zero}, ImageRules.certificate_fits}
use Rattle.rules.specs.Forms.{new_certificate, listed, unlisted, clock_form, card_form, id_form, message_form, executable_form, action_form, owned_form}
use Rattle.rules.specs.Forms.{replace_form}
use Rattle.terms.specs.Seldom.{two_bytes, four_bytes, rarely, seldom}
use Rattle.laws.proofs.{Tests.{and_l, and_r, by_test, eq→eqb, same}, Fits.occupied_out}

-- ---- a form with all its unused fields as one number: b stands for the bytes, s for the sum of the long fields

-- two numbers, each of which is 0 where the other is
same_zero : (m n : ℕ) → (m ≡ 0 → n ≡ 0) → (n ≡ 0 → m ≡ 0) → eqb m 0 ≡ eqb n 0
same_zero m n f g = same (eqb m 0) (eqb n 0) (λ t. eq→eqb n 0 (f (eqb→eq m 0 t))) (λ t. eq→eqb m 0 (g (eqb→eq n 0 t)))

module _ (p : Phone) (e : Event) {b s : ℕ} (q : b ≡ four_bytes e) (r : s ≡ seldom e) where
  pub clock_form_is : eqb (e.id + b + s) 0 ≡ clock_form p e
  unfolding clock_form all_zero
  clock_form_is =
      same_zero (e.id + b + s) (e.id + (e.second + (e.third + (e.fourth + (e.verifying + (e.owner + (e.expiry + 0)))))))
      (λ z. omega arith) (λ z. omega arith)

  pub id_form_is : (not (eqb e.id 0) && eqb (b + e.key + s) 0) ≡ id_form p e
  unfolding id_form all_zero
  id_form_is =
      ap (λ t. not (eqb e.id 0) && t)
      (same_zero (b + e.key + s) (e.second + (e.third + (e.fourth + (e.key + (e.verifying + (e.owner + (e.expiry + 0)))))))
      (λ z. omega arith) (λ z. omega arith))

  pub executable_form_is : (not (eqb e.id 0) && eqb (b + s) 0) ≡ executable_form p e
  unfolding executable_form all_zero
  executable_form_is =
      ap (λ t. not (eqb e.id 0) && t)
      (same_zero (b + s) (e.second + (e.third + (e.fourth + (e.verifying + (e.owner + (e.expiry + 0))))))
      (λ z. omega arith) (λ z. omega arith))

module _ (p : Phone) (e : Event) {b s : ℕ} (q : b ≡ two_bytes e) (r : s ≡ seldom e) where
  pub card_form_is : eqb (e.id + b + e.key + s) 0 ≡ card_form p e
  unfolding card_form all_zero
  card_form_is =
      same_zero (e.id + b + e.key + s) (e.id + (e.third + (e.fourth + (e.key + (e.verifying + (e.owner + (e.expiry + 0)))))))
      (λ z. omega arith) (λ z. omega arith)

  pub action_form_is : {a : ℕ} → a ≡ length p.table → (not (eqb e.id 0) && ltb e.second a && eqb (b + e.key + s) 0) ≡ action_form p e
  unfolding action_form all_zero
  action_form_is w =
      ap₂ (λ m t. not (eqb e.id 0) && ltb e.second m && t) w
      (same_zero (b + e.key + s) (e.third + (e.fourth + (e.key + (e.verifying + (e.owner + (e.expiry + 0))))))
      (λ z. omega arith) (λ z. omega arith))

pub owned_form_is : (p : Phone) (e : Event) {b s : ℕ} {o : Bool} → b ≡ four_bytes e → s ≡ rarely e → o ≡ between 2 3 e.actor
    → (not (eqb e.id 0) && eqb (b + e.key + s) 0 && (o || eqb e.owner 0)) ≡ owned_form p e
unfolding owned_form all_zero
owned_form_is p e {b} {s} q r w =
    ap₂ (λ t d. not (eqb e.id 0) && t && (d || eqb e.owner 0))
    (same_zero (b + e.key + s) (e.second + (e.third + (e.fourth + (e.key + (e.verifying + (e.expiry + 0))))))
    (λ z. omega arith) (λ z. omega arith))
    w

pub replace_form_is : (p : Phone) (e : Event) {b : ℕ} → b ≡ two_bytes e
    → (not (eqb e.id 0) && not (eqb e.second 0) && not (eqb e.key 0) && eqb b 0) ≡ replace_form p e
unfolding replace_form all_zero
replace_form_is p e {b} q =
    ap (λ t. not (eqb e.id 0) && not (eqb e.second 0) && not (eqb e.key 0) && t)
    (same_zero b (e.third + (e.fourth + 0)) (λ z. omega arith) (λ z. omega arith))

-- ---- what a form that fits is worth

fits : (b : Bool) → not b ≡ false → T b
fits b h = subst T (sym (not-false b h)) tt

-- an action that fits is one of the table's
pub action_below : (p : Phone) (e : Event) → not (action_form p e) ≡ false → e.second < length p.table
unfolding action_form
action_below p e h =
    let below = ltb e.second (length p.table) in
    let zero = all_zero (e.third ∷ e.fourth ∷ e.key ∷ e.verifying ∷ e.owner ∷ e.expiry ∷ []) in
    ltb→lt e.second (length p.table) (and_r (not (eqb e.id 0)) below (and_l (not (eqb e.id 0) && below) zero (fits (action_form p e) h)))

-- a certificate that fits is of one of the four domains
pub domain_below : (c : Certificate) → not (certificate_fits c) ≡ false → c.domain < 4
domain_below c h = let o = occupied_out c (fits (certificate_fits c) h) in omega arith

-- ---- a message

module _ (p : Phone) (e : Event) where
  -- the parts of the form besides the number listed
  abbrev rest : Bool → Bool → Bool → Bool
  rest fourth l u = leb e.third 2 && fourth && (eqb e.fourth 0 || eqb e.third 2) && all_zero (e.id ∷ e.second ∷ []) && l && u

  not_rest : (b o z l u : Bool) → false ≡ (b && false && o && z && l && u)
  not_rest true o z l u = refl
  not_rest false o z l u = refl

  pub message_long : 8 < e.fourth → false ≡ message_form p e
  unfolding message_form
  message_long h =
      not_rest (leb e.third 2) (eqb e.fourth 0 || eqb e.third 2) (all_zero (e.id ∷ e.second ∷ []))
      (all (λ n. not (eqb n 0)) (listed e)) (all_zero (unlisted e))
      ∙ ap (λ x. rest x (all (λ n. not (eqb n 0)) (listed e)) (all_zero (unlisted e))) (sym (lt-leb e.fourth 8 h))

  without : (b o l u : Bool) (z y : ℕ) → z ≡ y → (b && o && eqb z 0 && l && u) ≡ (b && true && o && eqb y 0 && l && u)
  without true o l u z y q = ap (λ k. o && eqb k 0 && l && u) q
  without false o l u z y q = refl

  pub message_short : e.fourth ≤ 8 → (l u : Bool) → l ≡ all (λ n. not (eqb n 0)) (listed e) → u ≡ all_zero (unlisted e)
      → (leb e.third 2 && (eqb e.fourth 0 || eqb e.third 2) && eqb (e.id + e.second) 0 && l && u) ≡ message_form p e
  unfolding message_form all_zero
  message_short h l u q w =
      without (leb e.third 2) (eqb e.fourth 0 || eqb e.third 2) l u (e.id + e.second) (e.id + (e.second + 0)) (omega arith)
      ∙ ap (λ x. rest x l u) (sym (le-leb e.fourth 8 h))
      ∙ ap₂ (λ x y. rest (leb e.fourth 8) x y) q w

  pub message_listed : not (message_form p e) ≡ false → e.fourth ≤ 8
  message_listed h =
      by_test (leb e.fourth 8) (λ t. leb→le e.fourth 8 t) (λ t. absurd (true≢false (ap not (message_long (nleb→lt e.fourth 8 t)) ∙ h)))

-- ---- an install event

-- a test as a number
as_bit : (b : Bool) → from_bool b ≡ cond b 1 0
as_bit true = refl
as_bit false = refl

-- a bit that is 1 unless a test holds
unless : (b : Bool) → from_bool (not b) ≡ cond b 0 1
unless true = refl
unless false = refl

-- what an install event stores, by a mark and what the field `enabled` says
abbrev stored : Event → ℕ → ℕ → Certificate
stored e m n =
    record {
      id = e.id;
      place = e.second;
      kind = e.third;
      domain = e.fourth;
      mark = m;
      enabled = n;
      key = e.key;
      verifying = e.verifying;
      owner = e.owner;
      expiry = e.expiry;
    }

-- the certificate that an install event stores, from its two computed fields
pub new_is : (mode : ℕ) (e : Event) (m n : ℕ)
    → m ≡ from_bool (eqb e.third 1 || (eqb e.third 0 && eqb e.fourth 3))
    → n ≡ from_bool (not (eqb e.third 0 && eqb e.fourth 3 && not (eqb mode 1)))
    → stored e m n ≡ new_certificate mode e
unfolding new_certificate
new_is mode e m n q w =
    ap₂ (stored e) (q ∙ as_bit _) (w ∙ unless (eqb e.third 0 && eqb e.fourth 3 && not (eqb mode 1)))
