-- "No rule marks a key valid by itself", of the card rule and of every effect. Assumes nothing.
use Prim.Native.Nat.{ℕ, zero, suc}
use mathlib.Core.{Bool.{Bool, true, false, cond, not, ◌&&◌}, List.{List, [], ◌∷◌, map}, Logic.{◌⊎◌, inl, inr}, Path.{◌≡◌, refl}}
use native.Mathlib.Omega.{arith}
use borrow.Author.Tests.{not-true}
use lib.{Dec.{T, eqb, eqb→eq}, ListN.get_or}
use Rattle.records.specs.{Phone.{Phone, no_certificate, certificate_at, with_card, marked, enabling}, declared.Certificate.Certificate, declared.Event.Event}
use Rattle.rules.specs.{Words.{at, change}, ImageRules.{free_certificate, third_party_root}, Forms.new_certificate}
use Rattle.rules.specs.Codes.{has_id, makes_valid, certificate_named}
use Rattle.rules.specs.Effects.{phone_operator_root, retired, card_rule, tick, card_in, card_out, power_up, install_certificate, delete_certificate, on_a_card}
use Rattle.rules.specs.Effects.{after_marking, mark_valid, mark_invalid, enabled_by, message, install_executable, delete_executable, verify, permit, request}
use Rattle.rules.specs.Effects.{replaced, replace, effects, effect, settle, changed}
use Rattle.laws.proofs.{Tests.by_test, Accepts.T_true, Changes.{at_cases, map_at, change_at, fill_at}}

-- every certificate changed by f
mapped : (p q : Phone) (f : Certificate → Certificate) → q.trust.certificates ≡ map f p.trust.certificates
    → ((c : Certificate) → (f c).mark ≡ 1 → c.mark ≡ 1)
    → (i : ℕ) → (certificate_at q i).mark ≡ 1 → (certificate_at p i).mark ≡ 1
mapped p q f e h i = rw e (map_at (λ c d. d.mark ≡ 1 → c.mark ≡ 1) f no_certificate p.trust.certificates (λ z. z) h i)

-- the card rule takes marks and gives none
card_rule_marks : (p : Phone) (i : ℕ) → (certificate_at (card_rule p) i).mark ≡ 1 → (certificate_at p i).mark ≡ 1
unfolding card_rule
card_rule_marks p =
    mapped p (card_rule p) _ refl
    (λ c m.
    by_test (retired p c)
    (λ t. let n = rw (T_true (retired p c) t) at m in omega arith)
    (λ t. let n = rw (not-true (retired p c) (T_true (not (retired p c)) t)) at m in omega arith))

-- ---- every effect

-- what a slot c that is valid after the event e was before it: valid, or named by "mark valid" or "replace", or free and filled by an install
abbrev pub MarkedBy : Event → Certificate → Type 0
MarkedBy e c = (c.mark ≡ 1) ⊎ (T (makes_valid e.kind) × (c.id ≡ e.id)) ⊎ ((e.kind ≡ 5) × (c.id ≡ 0))

-- a slot c that becomes d
abbrev Becomes : Event → Certificate → Certificate → Type 0
Becomes e c d = d.mark ≡ 1 → MarkedBy e c

-- certificates changed where a test holds
changes : (e : Event) (p : Phone) (t : Certificate → Bool) (f : Certificate → Certificate) → ((c : Certificate) → T (t c) → Becomes e c (f c))
    → (i : ℕ) → Becomes e (certificate_at p i) (get_or (change t f p.trust.certificates) i no_certificate)
changes e p t f h = change_at (Becomes e) t f no_certificate p.trust.certificates (λ c h. inl h) h

-- of the effect f of kind k
abbrev Marks : ℕ → (Event → Phone → Phone) → Type 0
Marks k f = (e : Event) → e.kind ≡ k → (p : Phone) (i : ℕ) → Becomes e (certificate_at p i) (certificate_at (f e p) i)

-- of the effects of a list, by their kinds from 0 on
abbrev Each : (ℕ → (Event → Phone → Phone) → Type 0) → List (Event → Phone → Phone) → Type 0
Each P [] = Unit {0}
Each P (f ∷ l) = P 0 f × Each (λ k. P (suc k)) l

each_at : (P : ℕ → (Event → Phone → Phone) → Type 0) (l : List (Event → Phone → Phone)) (d : Event → Phone → Phone) → Each P l → ((k : ℕ) → P k d)
    → (k : ℕ) → P k (get_or l k d)
each_at P [] d h n k = n k
each_at P (f ∷ l) d h n zero = h.0
each_at P (f ∷ l) d h n (suc k) = each_at (λ k. P (suc k)) l d h.1 (λ k. n (suc k)) k

-- ---- kind by kind

card_in_marks : (e : Event) (p : Phone) (i : ℕ) → (certificate_at (card_in e p) i).mark ≡ 1 → (certificate_at p i).mark ≡ 1
unfolding card_in
card_in_marks e p = card_rule_marks (with_card e.second p)

power_up_marks : (e : Event) (p : Phone) (i : ℕ) → (certificate_at (power_up e p) i).mark ≡ 1 → (certificate_at p i).mark ≡ 1
unfolding power_up card_out
power_up_marks e p i = go (eqb e.second 0)
  where
    go : (b : Bool) → (certificate_at (cond b (card_out e p) (card_in e p)) i).mark ≡ 1 → (certificate_at p i).mark ≡ 1
    go true h = omega arith
    go false h = card_in_marks e p i h

by_card_in : Marks 2 card_in
by_card_in e k p i h = inl (card_in_marks e p i h)

by_power_up : Marks 4 power_up
by_power_up e k p i h = inl (power_up_marks e p i h)

by_install : Marks 5 install_certificate
unfolding install_certificate
by_install e k p =
    fill_at (Becomes e) free_certificate (new_certificate p.mode e) no_certificate p.trust.certificates (λ c h. inl h)
    (λ c t h. inr (inr (k, eqb→eq c.id 0 t)))

by_delete : Marks 6 delete_certificate
unfolding delete_certificate
by_delete e k p = changes e p (has_id e.id) (λ c. no_certificate) (λ c t h. inl (omega arith))

by_mark_valid : Marks 7 mark_valid
unfolding mark_valid after_marking
by_mark_valid e k p =
    map_at (Becomes e) _ no_certificate p.trust.certificates (λ h. inl h) (λ c. go c (has_id e.id c) (λ t. eqb→eq c.id e.id t))
  where
    swept : Certificate → Bool
    swept c = on_a_card (certificate_named p e.id) && phone_operator_root c

    go : (c : Certificate) (b : Bool) → (T b → c.id ≡ e.id) → Becomes e c (cond b (marked 1 c) (at swept (marked 0) c))
    go c true n h = inr (inl (rw k tt, n tt))
    go c false n h = at_cases (λ lo hi. Becomes e hi lo) swept (marked 0) c (λ t z. inl (omega arith)) (λ t z. inl z) h

by_mark_invalid : Marks 8 mark_invalid
unfolding mark_invalid
by_mark_invalid e k p = changes e p (has_id e.id) (marked 0) (λ c t h. inl (omega arith))

by_message : Marks 9 message
unfolding message
by_message e k p = changes e p third_party_root (λ c. enabling (enabled_by e c) c) (λ c t h. inl h)

by_replace : Marks 16 replace
unfolding replace
by_replace e k p = changes e p (has_id e.id) (replaced e) (λ c t h. inr (inl (rw k tt, eqb→eq c.id e.id t)))

-- the kinds that leave the certificates alone
by_none : (k : ℕ) → Marks k request
unfolding request
by_none k e n p i h = inl h

all_marks : Each Marks effects
unfolding tick card_out install_executable delete_executable verify permit request
all_marks = search (by_none, by_card_in, by_power_up, by_install, by_delete, by_mark_valid, by_mark_invalid, by_message, by_replace) depth 21

-- ---- and so an event

pub changed_marks : (e : Event) (p : Phone) (i : ℕ) → (certificate_at (changed e p) i).mark ≡ 1 → MarkedBy e (certificate_at p i)
unfolding changed settle effect
changed_marks e = each_at Marks effects request all_marks by_none e.kind e refl
