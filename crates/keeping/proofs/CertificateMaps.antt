-- The image rules I2 to I5 under a change of every certificate slot. Assumes nothing.
use Prim.Native.Nat.{ℕ, ◌≤◌}
use mathlib.Core.List.Memᴰ
use mathlib.Core.{Bool.Bool, List.{List, map, Memᴰ}, Logic.{◌≢◌, ◌⊎◌, inl, inr}, Path.{◌≡◌, refl, subst, sym, ap, ◌∙◌}}
use native.Mathlib.Omega.{arith}
use lib.Dec.{T}
use Rattle.records.specs.{Phone.{Seen, no_certificate, marked, enabling}, declared.Certificate.Certificate, declared.Card.Card}
use Rattle.rules.specs.{Words.at, ImageRules.{known_place, operator_of}}
use Rattle.laws.proofs.{Distinct.distinct_map, Changes.at_cases, Roots.{Like, valid_mark, valid_like}, Accepted.{Occupied, Valid, Held, Single, Yielding}}

-- ---- slots that keep all but their marks

pub like_refl : (c : Certificate) → Like c c
like_refl c =
    record { id = refl; place = refl; kind = refl; domain = refl; key = refl; verifying = refl; owner = refl; expiry = refl }

pub like_marked : (m : ℕ) (c : Certificate) → Like (marked m c) c
like_marked m c =
    record { id = refl; place = refl; kind = refl; domain = refl; key = refl; verifying = refl; owner = refl; expiry = refl }

pub like_enabling : (m : ℕ) (c : Certificate) → Like (enabling m c) c
like_enabling m c =
    record { id = refl; place = refl; kind = refl; domain = refl; key = refl; verifying = refl; owner = refl; expiry = refl }

-- a slot is free or well filled
abbrev pub Slot : Certificate → Type 0
Slot c = (c ≡ no_certificate) ⊎ Occupied c

-- a change that keeps a slot but for its marks, or frees it
abbrev pub Mild : (Certificate → Certificate) → Type 0
Mild f = (c : Certificate) → (f c ≡ no_certificate) ⊎ Like (f c) c

-- a change that makes no mark
abbrev pub Unmarking : (Certificate → Certificate) → Type 0
Unmarking f = (c : Certificate) → (f c).mark ≡ 1 → c.mark ≡ 1

-- what a slot was
record Was (l : List Certificate) (x : Certificate) : Type 0 where
  slot : Certificate
  mem : Memᴰ slot l
  like : Like x slot

pub free_valid : (x : Certificate) (d t : ℕ) → x ≡ no_certificate → Valid d t x → ⊥
free_valid x d t e v = let z : x.mark ≡ 0 = ap (λ c. c.mark) e in let o = valid_mark d t x v in omega arith

zero_known : (cards : List Card) → T (known_place cards 0)
unfolding known_place
zero_known cards = tt

-- ---- I2 to I4

module _ (cards : List Card) (l : List Certificate) (held : Held cards l) (f : Certificate → Certificate) (mild : Mild f) where
  was : (x : Certificate) → Memᴰ x (map f l) → (x ≡ no_certificate) ⊎ Was l x
  was x m = let o = Memᴰ.of_map f l m in go o.0 o.1 o.2 (mild o.0)
    where
      go : (c : Certificate) → Memᴰ c l → f c ≡ x → (f c ≡ no_certificate) ⊎ Like (f c) c → (x ≡ no_certificate) ⊎ Was l x
      go c m e (inl z) = inl (sym e ∙ z)
      go c m e (inr k) = inr (record { slot = c; mem = m; like = subst (λ y. Like y c) e k })

  pub held_map : ((c : Certificate) → Memᴰ c l → Slot c → Slot (f c)) → Held cards (map f l)
  held_map fits =
      record {
        slots = slots;
        places = λ x m. place x (was x m);
        ids = distinct_map (λ c. c.id) f (λ x nz. same x nz (mild x)) l held.ids;
        keys = λ x y m n nz e. key x y nz e (was x m) (was y n);
        owners = λ x m. owner x (was x m);
      }
    where
      slots : (x : Certificate) → Memᴰ x (map f l) → Slot x
      slots x m =
          let o = Memᴰ.of_map f l m in
          subst (λ y. Slot y) o.2 (fits o.0 o.1 (held.slots o.0 o.1))

      place : (x : Certificate) → (x ≡ no_certificate) ⊎ Was l x → T (known_place cards x.place)
      place x (inl z) = subst (λ c. T (known_place cards c.place)) (sym z) (zero_known cards)
      place x (inr w) = subst (λ n. T (known_place cards n)) (sym w.like.place) (held.places w.slot w.mem)

      same : (x : Certificate) → (f x).id ≢ 0 → (f x ≡ no_certificate) ⊎ Like (f x) x → (f x).id ≡ x.id
      same x nz (inl z) = absurd (nz (ap (λ c. c.id) z))
      same x nz (inr k) = k.id

      key : (x y : Certificate) → x.key ≢ 0 → x.key ≡ y.key → (x ≡ no_certificate) ⊎ Was l x → (y ≡ no_certificate) ⊎ Was l y → x.domain ≡ y.domain
      key x y nz e (inl z) w = absurd (nz (ap (λ c. c.key) z))
      key x y nz e (inr w) (inl z) = absurd (nz (e ∙ ap (λ c. c.key) z))
      key x y nz e (inr w) (inr v) =
          let h : w.slot.domain ≡ v.slot.domain = held.keys w.slot v.slot w.mem v.mem (λ z. nz (w.like.key ∙ z)) (cc) in
          cc

      owner : (x : Certificate) → (x ≡ no_certificate) ⊎ Was l x → x.kind ≡ 0 → x.domain ≡ 1 → x.place ≢ 0 → x.owner ≡ operator_of cards x.place
      owner x (inl z) k d nz = absurd (nz (ap (λ c. c.place) z))
      owner x (inr w) k d nz =
          let h : w.slot.owner ≡ operator_of cards w.slot.place = held.owners w.slot w.mem (cc) (cc) (λ z. nz (w.like.place ∙ z)) in
          cc

-- ---- I5, where no mark is made

-- a root that is valid now was so before
record Before (d t : ℕ) (l : List Certificate) (x : Certificate) : Type 0 where
  slot : Certificate
  mem : Memᴰ slot l
  like : Like x slot
  valid : Valid d t slot

module _ (l : List Certificate) (f : Certificate → Certificate) (mild : Mild f) (unmarking : Unmarking f) where
  before : (d t : ℕ) (x : Certificate) → Memᴰ x (map f l) → Valid d t x → Before d t l x
  before d t x m v = let o = Memᴰ.of_map f l m in go o.0 o.1 o.2 (mild o.0)
    where
      go : (c : Certificate) → Memᴰ c l → f c ≡ x → (f c ≡ no_certificate) ⊎ Like (f c) c → Before d t l x
      go c m e (inl z) = absurd (free_valid x d t (sym e ∙ z) v)
      go c m e (inr k) =
          let i : Like x c = subst (λ y. Like y c) e k in
          record { slot = c; mem = m; like = i; valid = valid_like d t x c i (λ n. unmarking c (ap (λ y. y.mark) e ∙ n)) v }

  pub single_map : (t : ℕ) → Single t l → Single t (map f l)
  single_map t ok =
      record {
        one_each = λ x y m n v w e.
            let a = before 1 t x m v in
            let b = before 1 t y n w in
            let p : a.slot.place ≡ b.slot.place = sym a.like.place ∙ e ∙ b.like.place in
            a.like.id ∙ ok.one_each a.slot b.slot a.mem b.mem a.valid b.valid p ∙ sym b.like.id;
        one_maker = λ x y m n v w.
            let a = before 2 t x m v in
            let b = before 2 t y n w in
            a.like.id ∙ ok.one_maker a.slot b.slot a.mem b.mem a.valid b.valid ∙ sym b.like.id;
      }

  pub yielding_map : (cards : List Card) (s : Seen) → Yielding cards s l → Yielding cards s (map f l)
  yielding_map cards s ok =
      record {
        not_both = λ x y m n v w e g.
            let a = before 1 s.clock x m v in
            let b = before 1 s.clock y n w in
            ok.not_both a.slot b.slot a.mem b.mem a.valid b.valid (sym a.like.place ∙ e) (sym b.like.place ∙ g);
        mine = λ x m v e nz.
            let a = before 1 s.clock x m v in
            a.like.owner ∙ ok.mine a.slot a.mem a.valid (sym a.like.place ∙ e) nz;
      }

-- ---- slots changed where a test holds

pub mild_at : (t : Certificate → Bool) (g : Certificate → Certificate) → Mild g → Mild (at t g)
mild_at t g h c =
    at_cases (λ lo hi. (lo ≡ no_certificate) ⊎ Like lo hi) t g c (λ x. h c) (λ x. inr (like_refl c))

pub unmarking_at : (t : Certificate → Bool) (g : Certificate → Certificate) → Unmarking g → Unmarking (at t g)
unmarking_at t g h c = at_cases (λ lo hi. lo.mark ≡ 1 → hi.mark ≡ 1) t g c (λ x. h c) (λ x e. e)

pub slot_at : (t : Certificate → Bool) (g : Certificate → Certificate) → (T (t no_certificate) → ⊥) → (c : Certificate)
    → (T (t c) → Occupied c → Slot (g c)) → Slot c → Slot (at t g c)
slot_at t g n c h (inl z) =
    at_cases (λ lo hi. Slot lo) t g c (λ x. absurd (n (subst (λ c. T (t c)) z x))) (λ x. inl z)
slot_at t g n c h (inr o) = at_cases (λ lo hi. Slot lo) t g c (λ x. h x o) (λ x. inr o)

pub marked_fits : (m : ℕ) (c : Certificate) → m ≤ 1 → c.kind ≡ 0 → Occupied c → Occupied (marked m c)
marked_fits m c l k o =
    record {
      id = o.id;
      key = o.key;
      kind = o.kind;
      domain = o.domain;
      mark = l;
      enabled = o.enabled;
      root = o.root;
      issued = λ e. absurd (omega arith);
      recovery = λ e. absurd (omega arith);
    }

pub enabling_fits : (m : ℕ) (c : Certificate) → m ≤ 1 → c.kind ≡ 0 → c.domain ≡ 3 → Occupied c → Occupied (enabling m c)
enabling_fits m c l k d o =
    record {
      id = o.id;
      key = o.key;
      kind = o.kind;
      domain = o.domain;
      mark = o.mark;
      enabled = l;
      root = λ e. ((o.root e).0, (o.root e).1, λ n. absurd (n d));
      issued = λ e. absurd (omega arith);
      recovery = λ e. absurd (omega arith);
    }
