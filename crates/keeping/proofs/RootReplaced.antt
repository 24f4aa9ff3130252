-- A root that is replaced, where no other stands in its way, keeps the image rules I2 to I5. Assumes nothing.
use mathlib.Core.List.Memᴰ
use mathlib.Core.{Bool.{not, ◌&&◌}, List.{List, Memᴰ}, Logic.{◌≢◌, ◌⊎◌, inl, inr}, Path.{◌≡◌, refl, subst, sym, ap, ◌∙◌}}
use native.Mathlib.Omega.{arith}
use lib.Dec.{T, eqb→eq}
use Rattle.records.specs.{Phone.Trust, declared.Certificate.Certificate, declared.Card.Card, declared.Event.Event}
use Rattle.rules.specs.{Words.{at, change}, ImageRules.{known_place, operator_of}, Codes.has_id, Effects.{phone_operator_root, on_a_card, replaced}}
use Rattle.laws.proofs.{Tests.{tests, neqb→ne}, Distinct.distinct_map, Changes.at_cases, Accepted.{Occupied, Held, Kept}}
use Rattle.keeping.proofs.{Done.nand_i, CertificateChanges.holding, CertificateMaps.Slot}
use Rattle.keeping.proofs.MarkValid.{Clear, Origin, chosen, left, each, maker, both, mine}

-- what an event that is done says of the root r that it replaces
pub record Successor (cards : List Card) (t : Trust) (r : Certificate) (e : Event) : Type 0 where
  pub clear : Clear cards t r
  pub mem : Memᴰ r t.certificates
  pub phone : r.place ≡ 0
  pub key : e.key ≢ 0
  pub owner : e.owner ≡ r.owner
  pub own_key : (x : Certificate) → Memᴰ x t.certificates → x.key ≡ e.key → x.domain ≡ r.domain

module _ (cards : List Card) (t : Trust) (r : Certificate) (e : Event) (s : Successor cards t r e) (ok : Kept cards t) where
  l : List Certificate
  l = t.certificates

  -- a slot afterwards: the new root, or another as it was
  abbrev After : Certificate → Type 0
  After x = (x ≡ replaced e r) ⊎ (Memᴰ x l × (x.id ≢ r.id))

  after : (x : Certificate) → Memᴰ x (change (has_id r.id) (replaced e) l) → After x
  unfolding l
  after x m =
      let o = Memᴰ.of_map (at (has_id r.id) (replaced e)) l m in
      at_cases (λ y c. Memᴰ c l → y ≡ x → After x) (has_id r.id) (replaced e) o.0
      (λ h n q. inl (sym q ∙ ap (replaced e) (sym (s.clear.alone o.0 n (eqb→eq o.0.id r.id h)))))
      (λ h n q. inr (subst (λ y. Memᴰ y l) q n, subst (λ y. y.id ≢ r.id) q (neqb→ne o.0.id r.id h)))
      o.1 o.2

  new : Occupied r → Occupied (replaced e r)
  new o =
      let k = s.clear.root in
      record {
        id = o.id;
        key = s.key;
        kind = o.kind;
        domain = o.domain;
        mark = omega arith;
        enabled = o.enabled;
        root = o.root;
        issued = λ q. absurd (omega arith);
        recovery = λ q. absurd (omega arith);
      }

  slot : Slot r → Slot (replaced e r)
  slot (inl z) = absurd (s.clear.id (ap (λ c. c.id) z))
  slot (inr o) = inr (new o)

  same_id : (x : Certificate) → (at (has_id r.id) (replaced e) x).id ≡ x.id
  same_id x = at_cases (λ y c. y.id ≡ c.id) (has_id r.id) (replaced e) x (λ h. refl) (λ h. refl)

  held : Held cards (change (has_id r.id) (replaced e) l)
  unfolding l
  held =
      record {
        slots = λ x m. slots x (after x m);
        places = λ x m. places x (after x m);
        ids = distinct_map (λ c. c.id) (at (has_id r.id) (replaced e)) (λ x nz. same_id x) l ok.held.ids;
        keys = λ x y m n nz q. keys x y nz q (after x m) (after y n);
        owners = λ x m. owners x (after x m);
      }
    where
      slots : (x : Certificate) → After x → Slot x
      slots x (inl q) = subst Slot (sym q) (slot (ok.held.slots r s.mem))
      slots x (inr m) = ok.held.slots x m.0

      places : (x : Certificate) → After x → T (known_place cards x.place)
      places x (inl q) = subst (λ y. T (known_place cards y.place)) (sym q) (ok.held.places r s.mem)
      places x (inr m) = ok.held.places x m.0

      keys : (x y : Certificate) → x.key ≢ 0 → x.key ≡ y.key → After x → After y → x.domain ≡ y.domain
      keys x y nz q (inl a) (inl b) = ap (λ c. c.domain) (a ∙ sym b)
      keys x y nz q (inl a) (inr b) = ap (λ c. c.domain) a ∙ sym (s.own_key y b.0 (sym q ∙ ap (λ c. c.key) a))
      keys x y nz q (inr a) (inl b) = s.own_key x a.0 (q ∙ ap (λ c. c.key) b) ∙ sym (ap (λ c. c.domain) b)
      keys x y nz q (inr a) (inr b) = ok.held.keys x y a.0 b.0 nz q

      owners : (x : Certificate) → After x → x.kind ≡ 0 → x.domain ≡ 1 → x.place ≢ 0 → x.owner ≡ operator_of cards x.place
      owners x (inl q) k d z = absurd (z (ap (λ c. c.place) q ∙ s.phone))
      owners x (inr m) k d z = ok.held.owners x m.0 k d z

  -- a root on the phone takes no mark away
  unmoved : (x : Certificate) → T (not (on_a_card r && phone_operator_root x))
  unfolding on_a_card
  unmoved x = let z = s.phone in nand_i (on_a_card r) (phone_operator_root x) (λ h. absurd (neqb→ne r.place 0 (search tests) z))

  origin : (x : Certificate) → Memᴰ x (change (has_id r.id) (replaced e) l) → Origin l r x
  unfolding l
  origin x m = go (after x m)
    where
      go : After x → Origin l r x
      go (inl q) =
          chosen
          (record {
            id = ap (λ c. c.id) q;
            place = ap (λ c. c.place) q;
            kind = ap (λ c. c.kind) q;
            domain = ap (λ c. c.domain) q;
            owner = ap (λ c. c.owner) q ∙ s.owner;
          })
      go (inr m) = left m.0 m.1 (unmoved x)

  pub keep_replaced : Kept cards (holding (change (has_id r.id) (replaced e) t.certificates) t)
  unfolding l
  keep_replaced =
      let c = s.clear in
      record {
        card = ok.card;
        held = held;
        single = record {
          one_each = λ x y m n v w q. each cards t r c ok x y v w q (origin x m) (origin y n);
          one_maker = λ x y m n v w. maker cards t r c ok x y v w (origin x m) (origin y n);
        };
        yielding = record {
          not_both = λ x y m n v w q g. both cards t r c ok x y v w q g (origin x m) (origin y n);
          mine = λ x m v q z. mine cards t r c ok x v q z (origin x m);
        };
      }
