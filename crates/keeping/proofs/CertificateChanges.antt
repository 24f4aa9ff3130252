-- Each change of the certificates, of the clock and of the card keeps the image rules I2 to I5. Assumes nothing.
use Prim.Native.Nat.{ℕ, ◌≤◌}
use mathlib.Core.List.Memᴰ
use mathlib.Core.{Bool.{Bool, true, false, cond, not, ◌&&◌, ◌||◌}, List.{List, Memᴰ}, Logic.{◌≢◌, ◌⊎◌, inl, inr}}
use mathlib.Core.Path.{◌≡◌, refl, subst, sym, ap, ◌∙◌}
use native.Mathlib.Omega.{arith}
use lib.Dec.{T, eqb, T_not, eqb→eq}
use Rattle.records.specs.{Phone.{Seen, Trust, Phone, no_certificate, marked, enabling, with_card}, declared.Certificate.Certificate, declared.Card.Card}
use Rattle.records.specs.declared.Event.{Event}
use Rattle.rules.specs.{Words.{any, at, change, fill}, ImageRules.{free_certificate, known_place, operator_of, third_party_root, has_valid_operator}}
use Rattle.rules.specs.{Forms.listed, Codes.has_id, Effects.{phone_operator_root, retired, card_rule, enabled_by}}
use Rattle.laws.proofs.{Tests.{tests, nand, nor_l}, Lists.fill_out, Distinct.distinct_fill, Changes.at_cases, Roots.{valid_kind, valid_domain, valid_mark}}
use Rattle.laws.proofs.{Accepted.{Occupied, Valid, Yielding, Kept}, Pairs.has_valid_in}
use Rattle.keeping.proofs.CertificateMaps.{Slot, Mild, Unmarking, like_marked, like_enabling, held_map, single_map, yielding_map, mild_at, unmarking_at}
use Rattle.keeping.proofs.CertificateMaps.{slot_at, marked_fits, enabling_fits}

abbrev pub seeing : Seen → Trust → Trust
seeing s t = record { seen = s; certificates = t.certificates }

abbrev pub holding : List Certificate → Trust → Trust
holding l t = record { seen = t.seen; certificates = l }

-- ---- what is seen

-- a time at which no more is valid than before
pub keep_clock : (cards : List Card) (t : Trust) (n : ℕ) → ((d : ℕ) (c : Certificate) → Valid d n c → Valid d t.seen.clock c)
    → Kept cards t → Kept cards (seeing (record { clock = n; card = t.seen.card }) t)
keep_clock cards t n earlier ok =
    record {
      card = ok.card;
      held = ok.held;
      single = record {
        one_each = λ c e m k v w. ok.single.one_each c e m k (earlier 1 c v) (earlier 1 e w);
        one_maker = λ c e m k v w. ok.single.one_maker c e m k (earlier 2 c v) (earlier 2 e w);
      };
      yielding = record {
        not_both = λ c e m k v w. ok.yielding.not_both c e m k (earlier 1 c v) (earlier 1 e w);
        mine = λ c m v. ok.yielding.mine c m (earlier 1 c v);
      };
    }

pub keep_card_out : (cards : List Card) (t : Trust) → Kept cards t → Kept cards (seeing (record { clock = t.seen.clock; card = 0 }) t)
unfolding known_place
keep_card_out cards t ok =
    record {
      card = tt;
      held = ok.held;
      single = ok.single;
      yielding = record { not_both = λ c e m n v w p q. refl; mine = λ c m v p nz. absurd (nz refl) };
    }

-- ---- slots changed where a test holds, with no mark made

keep_change : (cards : List Card) (t : Trust) (f : Certificate → Bool) (g : Certificate → Certificate) → Mild g → Unmarking g → (T (f no_certificate) → ⊥)
    → ((c : Certificate) → Memᴰ c t.certificates → T (f c) → Occupied c → Slot (g c))
    → Kept cards t → Kept cards (holding (change f g t.certificates) t)
keep_change cards t f g mild low free fits ok =
    record {
      card = ok.card;
      held = held_map cards t.certificates ok.held (at f g) (mild_at f g mild) (λ c m. slot_at f g free c (fits c m));
      single = single_map t.certificates (at f g) (mild_at f g mild) (unmarking_at f g low) t.seen.clock ok.single;
      yielding = yielding_map t.certificates (at f g) (mild_at f g mild) (unmarking_at f g low) cards t.seen ok.yielding;
    }

no_number : (n : ℕ) → n ≢ 0 → T (has_id n no_certificate) → ⊥
no_number n nz t = nz (sym (eqb→eq 0 n t))

pub keep_delete : (cards : List Card) (t : Trust) (n : ℕ) → n ≢ 0
    → Kept cards t → Kept cards (holding (change (has_id n) (λ c. no_certificate) t.certificates) t)
keep_delete cards t n nz ok =
    keep_change cards t (has_id n) (λ c. no_certificate) (λ c. inl refl) (λ c e. absurd (omega arith)) (no_number n nz) (λ c m h o. inl refl) ok

pub keep_invalid : (cards : List Card) (t : Trust) (n : ℕ) → n ≢ 0 → ((c : Certificate) → Memᴰ c t.certificates → c.id ≡ n → c.kind ≡ 0)
    → Kept cards t → Kept cards (holding (change (has_id n) (marked 0) t.certificates) t)
keep_invalid cards t n nz root ok =
    keep_change cards t (has_id n) (marked 0) (λ c. inr (like_marked 0 c)) (λ c e. absurd (omega arith)) (no_number n nz)
    (λ c m h o. inr (marked_fits 0 c (omega arith) (root c m (eqb→eq c.id n h)) o)) ok

enabled_small : (e : Event) (c : Certificate) → enabled_by e c ≤ 1
unfolding enabled_by
enabled_small e c = go (eqb e.third 1 || (eqb e.third 2 && any (eqb c.id) (listed e)))
  where
    go : (b : Bool) → cond b 1 0 ≤ 1
    go true = omega arith
    go false = omega arith

pub keep_message : (cards : List Card) (t : Trust) (e : Event)
    → Kept cards t → Kept cards (holding (change third_party_root (λ c. enabling (enabled_by e c) c) t.certificates) t)
keep_message cards t e ok =
    keep_change cards t third_party_root (λ c. enabling (enabled_by e c) c) (λ c. inr (like_enabling (enabled_by e c) c)) (λ c h. h) (λ h. h)
    (λ c m h o. inr (enabling_fits (enabled_by e c) c (enabled_small e c) (search tests) (search tests) o)) ok

-- ---- the card rule

-- a mark that is left shows a slot that was not touched
pub spared : (f : Certificate → Bool) (l : List Certificate) (x : Certificate) → Memᴰ x (change f (marked 0) l) → x.mark ≡ 1
    → Memᴰ x l × T (not (f x))
spared f l x m v =
    let o = Memᴰ.of_map (at f (marked 0)) l m in
    at_cases (λ lo hi. lo ≡ x → Memᴰ hi l → Memᴰ x l × T (not (f x))) f (marked 0) o.0
    (λ h e n. absurd (hit o.0 e))
    (λ h e n. (subst (λ y. Memᴰ y l) e n, subst (λ y. T (not (f y))) e h)) o.2 o.1
  where
    hit : (c : Certificate) → marked 0 c ≡ x → ⊥
    hit c e = let z : 0 ≡ x.mark = ap (λ y. y.mark) e in omega arith

module _ (p : Phone) where
  abbrev seen : Seen
  seen = p.trust.seen

  abbrev own : ℕ
  own = operator_of p.cards seen.card

  -- a valid operator root that the rule leaves on the phone
  left : (x : Certificate) → Memᴰ x (card_rule p).trust.certificates → Valid 1 seen.clock x → x.place ≡ 0
      → T (not (has_valid_operator p.trust seen.card || not (eqb x.owner own)))
  unfolding card_rule retired
  left x m v e =
      let a = spared (retired p) p.trust.certificates x m (valid_mark 1 seen.clock x v) in
      let y = valid_kind 1 seen.clock x v in
      let d = valid_domain 1 seen.clock x v in
      nand (phone_operator_root x) (has_valid_operator p.trust seen.card || not (eqb x.owner own)) a.1 (search tests)

  -- the rule alone makes it yield, whatever was valid before
  rule_yields : Yielding p.cards seen (card_rule p).trust.certificates
  unfolding card_rule
  rule_yields =
      record {
        not_both = λ x y m n v w e g.
            let a = nor_l (has_valid_operator p.trust seen.card) (not (eqb x.owner own)) (left x m v e) in
            let b = spared (retired p) p.trust.certificates y n (valid_mark 1 seen.clock y w) in
            absurd (T_not (has_valid_operator p.trust seen.card) a (has_valid_in p.trust seen.card y b.0 w g));
        mine = λ x m v e z. let a = left x m v e in eqb→eq x.owner own (search tests);
      }

pub keep_card_in : (p : Phone) (k : ℕ) → T (known_place p.cards k) → Kept p.cards p.trust → Kept p.cards (card_rule (with_card k p)).trust
unfolding card_rule retired
keep_card_in p k kn ok =
    record {
      card = kn;
      held = held_map p.cards l ok.held f mild (λ c m. slot_at hit (marked 0) (λ t. t) c (λ t o. inr (marked_fits 0 c (omega arith) (root c t) o)));
      single = single_map l f mild low p.trust.seen.clock ok.single;
      yielding = rule_yields (with_card k p);
    }
  where
    l : List Certificate
    l = p.trust.certificates

    hit : Certificate → Bool
    hit = retired (with_card k p)

    f : Certificate → Certificate
    f = at hit (marked 0)

    mild : Mild f
    mild = mild_at hit (marked 0) (λ c. inr (like_marked 0 c))

    low : Unmarking f
    low = unmarking_at hit (marked 0) (λ c e. absurd (omega arith))

    root : (c : Certificate) → T (hit c) → c.kind ≡ 0
    root c t = search tests

-- ---- a new certificate

-- what a new certificate must be
pub record New (cards : List Card) (t : Trust) (c : Certificate) : Type 0 where
  pub fits : Occupied c
  pub place : T (known_place cards c.place)
  pub fresh : (x : Certificate) → Memᴰ x t.certificates → x.id ≢ c.id
  pub own_key : (x : Certificate) → Memᴰ x t.certificates → x.key ≡ c.key → x.domain ≡ c.domain
  pub owner : c.kind ≡ 0 → c.domain ≡ 1 → c.place ≢ 0 → c.owner ≡ operator_of cards c.place
  pub unmarked : (d : ℕ) → d ≤ 2 → Valid d t.seen.clock c → ⊥

pub keep_install : (cards : List Card) (t : Trust) (c : Certificate) → New cards t c
    → Kept cards t → Kept cards (holding (fill free_certificate c t.certificates) t)
keep_install cards t c new ok =
    record {
      card = ok.card;
      held = record {
        slots = λ x m. slots x (old x m);
        places = λ x m. places x (old x m);
        ids = distinct_fill (λ c. c.id) free_certificate c l new.fresh ok.held.ids;
        keys = λ x y m n z e. keys x y z e (old x m) (old y n);
        owners = λ x m. owners x (old x m);
      };
      single = record {
        one_each = λ x y m n v w. ok.single.one_each x y (was 1 x (omega arith) v (old x m)) (was 1 y (omega arith) w (old y n)) v w;
        one_maker = λ x y m n v w. ok.single.one_maker x y (was 2 x (omega arith) v (old x m)) (was 2 y (omega arith) w (old y n)) v w;
      };
      yielding = record {
        not_both = λ x y m n v w. ok.yielding.not_both x y (was 1 x (omega arith) v (old x m)) (was 1 y (omega arith) w (old y n)) v w;
        mine = λ x m v. ok.yielding.mine x (was 1 x (omega arith) v (old x m)) v;
      };
    }
  where
    l : List Certificate
    l = t.certificates

    old : (x : Certificate) → Memᴰ x (fill free_certificate c l) → (x ≡ c) ⊎ Memᴰ x l
    old x m = fill_out free_certificate c l x m

    slots : (x : Certificate) → (x ≡ c) ⊎ Memᴰ x l → Slot x
    slots x (inl e) = inr (subst Occupied (sym e) new.fits)
    slots x (inr m) = ok.held.slots x m

    places : (x : Certificate) → (x ≡ c) ⊎ Memᴰ x l → T (known_place cards x.place)
    places x (inl e) = subst (λ y. T (known_place cards y.place)) (sym e) new.place
    places x (inr m) = ok.held.places x m

    keys : (x y : Certificate) → x.key ≢ 0 → x.key ≡ y.key → (x ≡ c) ⊎ Memᴰ x l → (y ≡ c) ⊎ Memᴰ y l → x.domain ≡ y.domain
    keys x y z e (inl a) (inl b) = ap (λ c. c.domain) (a ∙ sym b)
    keys x y z e (inl a) (inr b) = sym (new.own_key y b (sym e ∙ ap (λ c. c.key) a) ∙ ap (λ c. c.domain) (sym a))
    keys x y z e (inr a) (inl b) = new.own_key x a (e ∙ ap (λ c. c.key) b) ∙ ap (λ c. c.domain) (sym b)
    keys x y z e (inr a) (inr b) = ok.held.keys x y a b z e

    owners : (x : Certificate) → (x ≡ c) ⊎ Memᴰ x l → x.kind ≡ 0 → x.domain ≡ 1 → x.place ≢ 0 → x.owner ≡ operator_of cards x.place
    owners x (inl e) = subst (λ y. y.kind ≡ 0 → y.domain ≡ 1 → y.place ≢ 0 → y.owner ≡ operator_of cards y.place) (sym e) new.owner
    owners x (inr m) = ok.held.owners x m

    was : (d : ℕ) (x : Certificate) → d ≤ 2 → Valid d t.seen.clock x → (x ≡ c) ⊎ Memᴰ x l → Memᴰ x l
    was d x s v (inl e) = absurd (new.unmarked d s (subst (Valid d t.seen.clock) e v))
    was d x s v (inr m) = m
