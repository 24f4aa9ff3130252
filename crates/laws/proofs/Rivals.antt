-- What stands in the way of a root that is present, on an accepted phone: less has to be asked there than 13 says. Assumes nothing.
use Prim.Native.Nat.{ℕ}
use mathlib.Core.{Bool.{Bool, true, false, cond, not, ◌&&◌, ◌||◌}, List.{List, [], ◌∷◌, Memᴰ}, Logic.{◌≢◌, ◌⊎◌, inl, inr}}
use mathlib.Core.Path.{◌≡◌, refl, sym, subst, ap, ap₂, ◌∙◌}
use native.Mathlib.Omega.{arith}
use borrow.Author.Tests.{eq-eqb, ne_eqb}
use lib.Dec.{T, eqb, eqb→eq}
use Rattle.records.specs.{Phone.{Seen, decode, no_certificate}, declared.Certificate.Certificate}
use Rattle.rules.specs.{Words.any, Chains.{present, valid_root, in_date}, Codes.rival, Parts.near_rival, ImageRules.slot_fits, AcceptedImage.AcceptedImage}
use Rattle.laws.proofs.{Tests.{and_l, or_cases, by_test, neqb→ne}, Accepts.{true_T, accepted_out}, Fits.slot_out, Accepted.Occupied}

-- v: x is a valid root; d: of the same domain; a: the same one
regrouped : (a v d b n m : Bool) → (T v → T d → n ≡ (b && m)) → (not a && v && d && n) ≡ (b && (v && d && not a && m))
regrouped true true true true n m h = refl
regrouped true true true false n m h = refl
regrouped true true false true n m h = refl
regrouped true true false false n m h = refl
regrouped true false d true n m h = refl
regrouped true false d false n m h = refl
regrouped false true true b n m h = h tt tt
regrouped false true false true n m h = refl
regrouped false true false false n m h = refl
regrouped false false d true n m h = refl
regrouped false false d false n m h = refl

either_same : (b : Bool) → b ≡ (b || b)
either_same true = refl
either_same false = refl

module _ (s : Seen) (c x : Certificate) where
  -- what 13 asks of two valid roots of one domain
  abbrev placed : Bool
  placed = cond (eqb c.place 0) (present s x) (eqb x.place c.place)

  abbrev near : Bool
  near = eqb c.domain 2 || (eqb c.domain 1 && placed)

  abbrev reached : Bool
  reached = eqb x.place c.place || eqb x.place s.card

  abbrev Same : Type 0
  Same = near ≡ (not (eqb c.domain 3) && reached)

  -- "manufacturer, any other": both are on the phone
  maker : c.domain ≡ 2 → c.place ≡ 0 → x.place ≡ 0 → Same
  maker d p q = rw (eq-eqb c.domain 2 d, ne_eqb c.domain 3 (λ z. omega arith), eq-eqb x.place c.place (q ∙ sym p))

  module _ (d : c.domain ≡ 1) where
    -- of an operator root the place is asked
    by_place : placed ≡ reached → Same
    by_place h =
        ap₂ (λ a b. a || (b && placed)) (ne_eqb c.domain 2 (λ z. omega arith)) (eq-eqb c.domain 1 d)
        ∙ h
        ∙ ap (λ a. not a && reached) (sym (ne_eqb c.domain 3 (λ z. omega arith)))

    -- "operator root on the phone, any other present"
    on_the_phone : c.place ≡ 0 → Same
    unfolding present
    on_the_phone p =
        by_place
        (ap (λ b. cond b (present s x) (eqb x.place c.place)) (eq-eqb c.place 0 p)
        ∙ ap (λ n. eqb x.place n || eqb x.place s.card) (sym p))

    -- "on a card, another on that card", which is the one that is present
    on_the_card : c.place ≢ 0 → c.place ≡ s.card → Same
    on_the_card n p =
        by_place
        (ap (λ b. cond b (present s x) (eqb x.place c.place)) (ne_eqb c.place 0 n)
        ∙ either_same (eqb x.place c.place)
        ∙ ap (λ m. eqb x.place c.place || eqb x.place m) p)

  third : c.domain ≡ 3 → Same
  third d = rw (ne_eqb c.domain 2 (λ z. omega arith), ne_eqb c.domain 1 (λ z. omega arith), eq-eqb c.domain 3 d)

  -- c is a root that is present, and x a valid root of its domain
  module _ (o : Occupied c) (k : c.kind ≡ 0) (there : present s c ≡ true) (u : Occupied x) (h : x.kind ≡ 0) (e : x.domain ≡ c.domain) where
    by_domain : Same
    unfolding present
    by_domain =
        by_test (eqb c.domain 2) (λ t. let d = eqb→eq c.domain 2 t in maker d ((o.root k).1 d) ((u.root h).1 (e ∙ d)))
        (λ n. by_test (eqb c.domain 3) (λ t. third (eqb→eq c.domain 3 t))
        (λ m. operator (let a = neqb→ne c.domain 2 n in let b = neqb→ne c.domain 3 m in let l = o.domain in omega arith)))
      where
        card : T (not (eqb c.place 0)) → c.place ≡ s.card
        card n = go (or_cases (eqb c.place 0) (eqb c.place s.card) (true_T _ there))
          where
            go : T (eqb c.place 0) ⊎ T (eqb c.place s.card) → c.place ≡ s.card
            go (inl t) = absurd (neqb→ne c.place 0 n (eqb→eq c.place 0 t))
            go (inr t) = eqb→eq c.place s.card t

        operator : c.domain ≡ 1 → Same
        operator d =
            by_test (eqb c.place 0) (λ t. on_the_phone d (eqb→eq c.place 0 t))
            (λ n. on_the_card d (neqb→ne c.place 0 n) (card n))

  -- c is a root that is present, and x a slot of an accepted phone
  same_rival : (c ≡ no_certificate) ⊎ Occupied c → c.kind ≡ 0 → present s c ≡ true → (x ≡ no_certificate) ⊎ Occupied x
      → rival s c x ≡ (not (eqb c.domain 3) && near_rival s.clock s.card c x)
  unfolding rival valid_root
  same_rival o k there u =
      regrouped (eqb x.id c.id) (valid_root s.clock x) (eqb x.domain c.domain) (not (eqb c.domain 3)) near reached
      (λ v d. go o u v (eqb→eq _ _ d))
    where
      go : (c ≡ no_certificate) ⊎ Occupied c → (x ≡ no_certificate) ⊎ Occupied x → T (valid_root s.clock x) → x.domain ≡ c.domain → Same
      go o (inl z) v e = absurd (subst (λ y. T (valid_root s.clock y)) z v)
      go (inl z) (inr u) v e = absurd (let n = u.domain in let m = ap (λ y. y.domain) z in omega arith)
      go (inr o) (inr u) v e =
          by_domain o k there u
          (eqb→eq x.kind 0 (and_l (eqb x.kind 0) (eqb x.mark 1) (and_l (eqb x.kind 0 && eqb x.mark 1) (in_date s.clock x) v))) e

-- a test that the others all begin with
any_with : {A : Type 0} (b : Bool) (f g : A → Bool) (l : List A) → ((x : A) → Memᴰ x l → f x ≡ (b && g x)) → any f l ≡ (b && any g l)
unfolding any
any_with true f g [] h = refl
any_with false f g [] h = refl
any_with b f g (x ∷ l) h = ap₂ ◌||◌ (h x (Memᴰ.head refl)) (any_with b f g l (λ y m. h y (Memᴰ.tail m))) ∙ both b (g x) (any g l)
  where
    both : (b c d : Bool) → ((b && c) || (b && d)) ≡ (b && (c || d))
    both true c d = refl
    both false c d = refl

-- 13, of a root that is present on an accepted phone
pub near_rivals : {l : List ℕ} → AcceptedImage l → let p = decode l in (c : Certificate) → T (slot_fits c) → c.kind ≡ 0 → present p.trust.seen c ≡ true
    → any (rival p.trust.seen c) p.trust.certificates
    ≡ (not (eqb c.domain 3) && any (near_rival p.trust.seen.clock p.trust.seen.card c) p.trust.certificates)
near_rivals {l} a c f k there =
    let p = decode l in
    let held = (accepted_out l a.accepted).1.trust.held in
    any_with (not (eqb c.domain 3)) (rival p.trust.seen c) (near_rival p.trust.seen.clock p.trust.seen.card c) p.trust.certificates
    (λ x m. same_rival p.trust.seen c x (slot_out c f) k there (held.slots x m))
