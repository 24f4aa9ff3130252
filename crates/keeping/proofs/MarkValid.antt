-- Marking a root valid, where no other stands in its way, keeps the image rules I2 to I5. Assumes nothing.
use Prim.Native.Nat.{ℕ}
use mathlib.Core.List.Memᴰ
use mathlib.Core.{Bool.{Bool, true, false, cond, not, ◌&&◌}, List.{List, map, Memᴰ}, Logic.{◌≢◌, ◌⊎◌, inl, inr}}
use mathlib.Core.Path.{◌≡◌, subst, sym, ap, ◌∙◌}
use native.Mathlib.Omega.{arith}
use lib.Dec.{T, eqb, T_not, eqb→eq}
use Rattle.records.specs.{Phone.{Seen, Trust, marked}, declared.Certificate.Certificate, declared.Card.Card}
use Rattle.rules.specs.{Chains.present, ImageRules.operator_of, Codes.{has_id, rival}, Effects.{phone_operator_root, on_a_card, after_marking}}
use Rattle.laws.proofs.{Tests.{tests, neqb→ne, nand, by_test}, Roots.{Like, valid_root_of, valid_kind, valid_domain, valid_mark}, Accepted.{Valid, Kept}}
use Rattle.keeping.proofs.{CertificateChanges.holding, CertificateMaps.{Slot, like_refl, like_marked, held_map, marked_fits}}

-- ---- who is a rival of r

rival_maker : (s : Seen) (r x : Certificate) → x.id ≢ r.id → r.domain ≡ 2 → Valid 2 s.clock x → T (rival s r x)
unfolding rival
rival_maker s r x i d v =
    let a = valid_root_of 2 s.clock x v in
    let b : x.domain ≡ r.domain = valid_domain 2 s.clock x v ∙ sym d in
    search tests

rival_here : (s : Seen) (r x : Certificate) → x.id ≢ r.id → r.domain ≡ 1 → Valid 1 s.clock x → r.place ≡ 0 → T (present s x) → T (rival s r x)
unfolding rival
rival_here s r x i d v z h =
    let a = valid_root_of 1 s.clock x v in
    let b : x.domain ≡ r.domain = valid_domain 1 s.clock x v ∙ sym d in
    search tests

rival_there : (s : Seen) (r x : Certificate) → x.id ≢ r.id → r.domain ≡ 1 → Valid 1 s.clock x → r.place ≢ 0 → x.place ≡ r.place → T (rival s r x)
unfolding rival
rival_there s r x i d v z h =
    let a = valid_root_of 1 s.clock x v in
    let b : x.domain ≡ r.domain = valid_domain 1 s.clock x v ∙ sym d in
    search tests

present_by : (s : Seen) (c : Certificate) → (c.place ≡ 0) ⊎ (c.place ≡ s.card) → T (present s c)
unfolding present
present_by s c (inl z) = search tests
present_by s c (inr z) = search tests

-- ---- the slots after r, of id n, is marked valid

-- what a root keeps that is marked valid, or replaced
pub record Alike (x r : Certificate) : Type 0 where
  pub id : x.id ≡ r.id
  pub place : x.place ≡ r.place
  pub kind : x.kind ≡ r.kind
  pub domain : x.domain ≡ r.domain
  pub owner : x.owner ≡ r.owner

alike : (x r : Certificate) → Like x r → Alike x r
alike x r k = record { id = k.id; place = k.place; kind = k.kind; domain = k.domain; owner = k.owner }

-- where a valid mark comes from
pub data Origin (l : List Certificate) (r x : Certificate) : Type 0 where
  chosen : Alike x r → Origin l r x
  left : Memᴰ x l → x.id ≢ r.id → T (not (on_a_card r && phone_operator_root x)) → Origin l r x

module _ (l : List Certificate) (r : Certificate) (alone : (c : Certificate) → Memᴰ c l → c.id ≡ r.id → r ≡ c) where
  origin : (x : Certificate) → Memᴰ x (map (after_marking r.id r) l) → x.mark ≡ 1 → Origin l r x
  unfolding after_marking
  origin x m v =
      let o = Memᴰ.of_map (after_marking r.id r) l m in
      go o.0 o.1 (has_id r.id o.0) (λ h. h) (λ h. h) (on_a_card r && phone_operator_root o.0) (λ h. h) o.2
    where
      go : (c : Certificate) → Memᴰ c l → (a : Bool) → (T a → T (has_id r.id c)) → (T (not a) → T (not (has_id r.id c)))
          → (d : Bool) → (T (not d) → T (not (on_a_card r && phone_operator_root c))) → cond a (marked 1 c) (cond d (marked 0 c) c) ≡ x → Origin l r x
      go c m true h i d k e =
          chosen (alike x r (subst (Like x) (sym (alone c m (eqb→eq c.id r.id (h tt)))) (subst (λ y. Like y c) e (like_marked 1 c))))
      go c m false h i true k e = let z : 0 ≡ x.mark = ap (λ y. y.mark) e in absurd (omega arith)
      go c m false h i false k e =
          left (subst (λ y. Memᴰ y l) e m) (subst (λ y. y.id ≢ r.id) e (neqb→ne c.id r.id (i tt)))
          (subst (λ y. T (not (on_a_card r && phone_operator_root y))) e (k tt))

like_after : (n : ℕ) (r c : Certificate) → Like (after_marking n r c) c
unfolding after_marking
like_after n r c = go (has_id n c) (on_a_card r && phone_operator_root c)
  where
    go : (a d : Bool) → Like (cond a (marked 1 c) (cond d (marked 0 c) c)) c
    go true d = like_marked 1 c
    go false true = like_marked 0 c
    go false false = like_refl c

fits_after : (n : ℕ) (r c : Certificate) → n ≢ 0 → (c.id ≡ n → c.kind ≡ 0) → Slot c → Slot (after_marking n r c)
unfolding after_marking
fits_after n r c nz k o = go (has_id n c) (on_a_card r && phone_operator_root c) (λ h. eqb→eq c.id n h) (λ h. search tests) o
  where
    go : (a d : Bool) → (T a → c.id ≡ n) → (T d → T (phone_operator_root c)) → Slot c → Slot (cond a (marked 1 c) (cond d (marked 0 c) c))
    go true d h i (inl z) = absurd (nz (sym (h tt) ∙ ap (λ c. c.id) z))
    go true d h i (inr o) = inr (marked_fits 1 c (omega arith) (k (h tt)) o)
    go false true h i (inl z) = inl (ap (marked 0) z)
    go false true h i (inr o) =
        let t : T (phone_operator_root c) = i tt in
        inr (marked_fits 0 c (omega arith) (search tests) o)
    go false false h i o = o

-- ---- no other stands in the way of r

pub record Clear (cards : List Card) (t : Trust) (r : Certificate) : Type 0 where
  pub id : r.id ≢ 0
  pub root : r.kind ≡ 0
  pub alone : (c : Certificate) → Memᴰ c t.certificates → c.id ≡ r.id → r ≡ c
  pub no_rival : (x : Certificate) → Memᴰ x t.certificates → T (rival t.seen r x) → ⊥
  pub owner : r.kind ≡ 0 → r.domain ≡ 1 → r.place ≡ 0 → t.seen.card ≢ 0 → r.owner ≡ operator_of cards t.seen.card

-- a root that is valid now, and where its mark comes from
abbrev Now : ℕ → Trust → Certificate → Type 0
Now d t x = Valid d t.seen.clock x

abbrev From : Trust → Certificate → Certificate → Type 0
From t r x = Origin t.certificates r x

module _ (cards : List Card) (t : Trust) (r : Certificate) (clear : Clear cards t r) (ok : Kept cards t) where
  -- the chosen one and another in its place
  clash : (x y : Certificate) → Alike x r → Now 1 t x → Memᴰ y t.certificates → y.id ≢ r.id → Now 1 t y → x.place ≡ y.place → ⊥
  clash x y a v m i w e =
      let d : r.domain ≡ 1 = sym a.domain ∙ valid_domain 1 t.seen.clock x v in
      let q : y.place ≡ r.place = sym e ∙ a.place in
      by_test (eqb r.place 0)
      (λ h. let z : r.place ≡ 0 = eqb→eq r.place 0 h in clear.no_rival y m (rival_here t.seen r y i d w z (present_by t.seen y (inl (q ∙ z)))))
      (λ h. clear.no_rival y m (rival_there t.seen r y i d w (neqb→ne r.place 0 h) q))

  pub each : (x y : Certificate) → Now 1 t x → Now 1 t y → x.place ≡ y.place → From t r x → From t r y → x.id ≡ y.id
  each x y v w e (chosen a) (chosen b) = cc
  each x y v w e (chosen a) (left m i s) = absurd (clash x y a v m i w e)
  each x y v w e (left m i s) (chosen a) = absurd (clash y x a w m i v (sym e))
  each x y v w e (left m i s) (left n j u) = ok.single.one_each x y m n v w e

  pub maker : (x y : Certificate) → Now 2 t x → Now 2 t y → From t r x → From t r y → x.id ≡ y.id
  maker x y v w (chosen a) (chosen b) = cc
  maker x y v w (chosen a) (left m i s) = absurd (clear.no_rival y m (rival_maker t.seen r y i (sym a.domain ∙ valid_domain 2 t.seen.clock x v) w))
  maker x y v w (left m i s) (chosen a) = absurd (clear.no_rival x m (rival_maker t.seen r x i (sym a.domain ∙ valid_domain 2 t.seen.clock y w) v))
  maker x y v w (left m i s) (left n j u) = ok.single.one_maker x y m n v w

  -- with r on a card, no valid operator root is left on the phone
  none_left : (x y : Certificate) → Now 1 t x → x.place ≡ 0 → T (not (on_a_card r && phone_operator_root x)) → Alike y r → Now 1 t y → y.place ≢ 0 → ⊥
  unfolding on_a_card
  none_left x y v e s a w nz =
      let k : r.kind ≡ 0 = sym a.kind ∙ valid_kind 1 t.seen.clock y w in
      let d : r.domain ≡ 1 = sym a.domain ∙ valid_domain 1 t.seen.clock y w in
      let z : r.place ≢ 0 = (λ q. nz (a.place ∙ q)) in
      let h = valid_kind 1 t.seen.clock x v in
      let i = valid_domain 1 t.seen.clock x v in
      T_not (phone_operator_root x) (nand (on_a_card r) (phone_operator_root x) s (search tests)) (search tests)

  pub both : (x y : Certificate) → Now 1 t x → Now 1 t y → x.place ≡ 0 → y.place ≡ t.seen.card → From t r x → From t r y → t.seen.card ≡ 0
  both x y v w e g (chosen a) (chosen b) = cc
  both x y v w e g (chosen a) (left m i s) =
      let d : r.domain ≡ 1 = sym a.domain ∙ valid_domain 1 t.seen.clock x v in
      absurd (clear.no_rival y m (rival_here t.seen r y i d w (sym a.place ∙ e) (present_by t.seen y (inr g))))
  both x y v w e g (left m i s) (chosen a) =
      by_test (eqb t.seen.card 0) (λ h. eqb→eq t.seen.card 0 h) (λ h. absurd (none_left x y v e s a w (λ z. neqb→ne t.seen.card 0 h (sym g ∙ z))))
  both x y v w e g (left m i s) (left n j u) = ok.yielding.not_both x y m n v w e g

  pub mine : (x : Certificate) → Now 1 t x → x.place ≡ 0 → t.seen.card ≢ 0 → From t r x → x.owner ≡ operator_of cards t.seen.card
  mine x v e z (chosen a) =
      a.owner ∙ clear.owner (sym a.kind ∙ valid_kind 1 t.seen.clock x v) (sym a.domain ∙ valid_domain 1 t.seen.clock x v) (sym a.place ∙ e) z
  mine x v e z (left m i s) = ok.yielding.mine x m v e z

  pub keep_valid : Kept cards (holding (map (after_marking r.id r) t.certificates) t)
  keep_valid =
      record {
        card = ok.card;
        held = held_map cards t.certificates ok.held (after_marking r.id r) (λ c. inr (like_after r.id r c))
            (λ c m. fits_after r.id r c clear.id (λ i. subst (λ x. x.kind ≡ 0) (clear.alone c m i) clear.root));
        single = record {
          one_each = λ x y m n v w e. each x y v w e (from 1 x m v) (from 1 y n w);
          one_maker = λ x y m n v w. maker x y v w (from 2 x m v) (from 2 y n w);
        };
        yielding = record {
          not_both = λ x y m n v w e g. both x y v w e g (from 1 x m v) (from 1 y n w);
          mine = λ x m v e z. mine x v e z (from 1 x m v);
        };
      }
    where
      from : (d : ℕ) (x : Certificate) → Memᴰ x (map (after_marking r.id r) t.certificates) → Now d t x → From t r x
      from d x m v = origin t.certificates r clear.alone x m (valid_mark d t.seen.clock x v)
