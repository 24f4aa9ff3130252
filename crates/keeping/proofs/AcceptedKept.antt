-- Every event keeps the image rules: an accepted phone stays accepted. Assumes nothing.
use Prim.Native.Nat.{ℕ}
use mathlib.Core.{Bool.{Bool, true, false, cond}, List.{List, [], ◌∷◌, map, Memᴰ}, Logic.{◌≢◌, ◌⊎◌, inl, inr}, Path.{◌≡◌, subst, sym, ◌∙◌}}
use lib.{Dec.{T, eqb, eqb→eq}, ListN.length}
use Rattle.records.specs.{Phone.{Phone, no_certificate, no_executable}, declared.Certificate.Certificate, declared.Card.Card, declared.Executable.Executable}
use Rattle.records.specs.{declared.Row.Row, declared.Event.Event}
use Rattle.rules.specs.{Words.distinct, Chains.present, ImageRules.row_fits, Codes.code_of, Effects.{effect, settle, changed}}
use Rattle.rules.specs.After.{after, after_all}
use Rattle.laws.proofs.{Tests.or_cases, Distinct.alone, Accepted.{Occupied, Valid, Kept, Named, Stored, Accepted}}
use Rattle.keeping.proofs.{CertificateMaps.free_valid, Unrefused.unrefused}
use Rattle.keeping.proofs.{ExecutablesKept.{executables_effect, executables_settle, settle_chained}, CertificatesKept.kept_effect, Shape.shape_changed}

pub accepted_changed : (p : Phone) (e : Event) → Accepted p → T (eqb (code_of p e) 0) → Accepted (changed e p)
unfolding changed settle
accepted_changed p e ok h =
    let t = unrefused p e h in
    let s = shape_changed e p in
    let x = executables_settle (length p.table) (effect e p) (executables_effect p (record { slots = ok.executables; ids = ok.ids }) e t) in
    record {
      cards = subst (λ l. (k : Card) → Memᴰ k l → Named k) (sym s.cards) ok.cards;
      numbers = subst (λ l. T (distinct (map (λ k. k.number) l))) (sym s.cards) ok.numbers;
      trust = subst (λ l. Kept l (effect e p).trust) (sym s.cards) (kept_effect p ok.trust e t);
      table = subst (λ l. (r : Row) → Memᴰ r l → T (row_fits r)) (sym s.table) ok.table;
      executables =
          subst (λ l. (x : Executable) → Memᴰ x (settle (effect e p)).executables → (x ≡ no_executable) ⊎ Stored (length l) x)
          (sym s.table) x.slots;
      ids = x.ids;
      chained = settle_chained (effect e p);
    }

pub accepted_after : (p : Phone) (e : Event) → Accepted p → Accepted (after e p)
unfolding after
accepted_after p e ok = go (eqb (code_of p e) 0) (λ h. h)
  where
    go : (b : Bool) → (T b → T (eqb (code_of p e) 0)) → Accepted (cond b (changed e p) p)
    go true h = accepted_changed p e ok (h tt)
    go false h = ok

pub accepted_after_all : (es : List Event) (p : Phone) → Accepted p → Accepted (after_all es p)
unfolding after_all
accepted_after_all [] p ok = ok
accepted_after_all (e ∷ es) p ok = accepted_after_all es (after e p) (accepted_after p e ok)

-- ---- of the valid operator roots that are present there is one

module _ (p : Phone) (ok : Accepted p) where
  abbrev clock : ℕ
  clock = p.trust.seen.clock

  abbrev card : ℕ
  card = p.trust.seen.card

  valid_id : (c : Certificate) → Memᴰ c p.trust.certificates → Valid 1 clock c → c.id ≢ 0
  valid_id c m v = go (ok.trust.held.slots c m)
    where
      go : (c ≡ no_certificate) ⊎ Occupied c → c.id ≢ 0
      go (inl z) = absurd (free_valid c 1 clock z v)
      go (inr o) = o.id

  one_id : (c e : Certificate) → Memᴰ c p.trust.certificates → Memᴰ e p.trust.certificates
      → Valid 1 clock c → Valid 1 clock e → T (present p.trust.seen c) → T (present p.trust.seen e) → c.id ≡ e.id
  unfolding present
  one_id c e m n v w a b = go (or_cases (eqb c.place 0) (eqb c.place card) a) (or_cases (eqb e.place 0) (eqb e.place card) b)
    where
      go : T (eqb c.place 0) ⊎ T (eqb c.place card) → T (eqb e.place 0) ⊎ T (eqb e.place card) → c.id ≡ e.id
      go (inl x) (inl y) = ok.trust.single.one_each c e m n v w (eqb→eq c.place 0 x ∙ sym (eqb→eq e.place 0 y))
      go (inr x) (inr y) = ok.trust.single.one_each c e m n v w (eqb→eq c.place card x ∙ sym (eqb→eq e.place card y))
      go (inl x) (inr y) =
          let z = ok.trust.yielding.not_both c e m n v w (eqb→eq c.place 0 x) (eqb→eq e.place card y) in
          ok.trust.single.one_each c e m n v w (eqb→eq c.place 0 x ∙ sym (eqb→eq e.place card y ∙ z))
      go (inr x) (inl y) =
          let z = ok.trust.yielding.not_both e c n m w v (eqb→eq e.place 0 y) (eqb→eq c.place card x) in
          ok.trust.single.one_each c e m n v w (eqb→eq c.place card x ∙ z ∙ sym (eqb→eq e.place 0 y))

  pub one_operator : (c e : Certificate) → Memᴰ c p.trust.certificates → Memᴰ e p.trust.certificates
      → Valid 1 p.trust.seen.clock c → Valid 1 p.trust.seen.clock e → T (present p.trust.seen c) → T (present p.trust.seen e) → c ≡ e
  one_operator c e m n v w a b =
      alone (λ c. c.id) p.trust.certificates ok.trust.held.ids c e m n (valid_id c m v) (one_id c e m n v w a b)
