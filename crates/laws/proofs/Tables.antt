-- The two lists of slots of a phone, certificates and executables: what a write to either has in common. Assumes nothing.
use Prim.Native.Nat.{ℕ}
use mathlib.Core.{List.{List, map}, Path.{◌≡◌, refl, sym, ap, ◌∙◌, subst}}
use native.Mathlib.Omega.{arith}
use lib.{Dec.T, ListN.length}
use Rattle.records.specs.{Phone.{Phone, decode, encode, no_certificate, no_executable, with_card, with_certificates, with_executables}, Frame.{Sized, Framed}}
use Rattle.records.specs.{declared.Certificate.Certificate, declared.Executable.Executable}
use Rattle.records.proofs.RoundTrip.{decode_encode, framed_encode}
use Rattle.rules.specs.{Words.distinct, AcceptedImage.AcceptedImage}
use Rattle.laws.proofs.Accepts.{accepted_out}

-- what the image of a phone q says, and that it is framed
pub says : (q : Phone) {s : List ℕ} → s ≡ encode q → decode s ≡ q
says q e = ap decode e ∙ decode_encode q

pub framed_as : (q : Phone) {s : List ℕ} → s ≡ encode q → Sized q → Framed s
framed_as q e h = subst Framed (sym e) (framed_encode q h)

pub sized_with_card : (n : ℕ) (p : Phone) → Sized p → Sized (with_card n p)
sized_with_card n p h =
    record { certificates = h.certificates; cards = h.cards; executables = h.executables; some_action = h.some_action; actions = h.actions }

-- a list of slots of a phone
pub record Part (A : Type 0) : Type 0 where
  pub none : A
  pub id : A → ℕ
  pub slots : Phone → List A
  pub put : List A → Phone → Phone
  pub put_slots : (l : List A) (p : Phone) → slots (put l p) ≡ l
  pub put_put : (l m : List A) (p : Phone) → put m (put l p) ≡ put m p
  pub put_same : (p : Phone) → put (slots p) p ≡ p
  pub put_sized : (l : List A) (p : Phone) → length l ≡ length (slots p) → Sized p → Sized (put l p)
  pub ids_distinct : (s : List ℕ) → AcceptedImage s → T (distinct (map id (slots (decode s))))

abbrev pub certificates : Part Certificate
certificates =
    record {
      none = no_certificate;
      id = λ c. c.id;
      slots = λ p. p.trust.certificates;
      put = with_certificates;
      put_slots = λ l p. refl;
      put_put = λ l m p. refl;
      put_same = λ p. refl;
      put_sized = λ l p e h. record {
        certificates = omega arith;
        cards = h.cards;
        executables = h.executables;
        some_action = h.some_action;
        actions = h.actions;
      };
      ids_distinct = λ s a. (accepted_out s a.accepted).1.trust.held.ids;
    }

abbrev pub executables : Part Executable
executables =
    record {
      none = no_executable;
      id = λ x. x.id;
      slots = λ p. p.executables;
      put = with_executables;
      put_slots = λ l p. refl;
      put_put = λ l m p. refl;
      put_same = λ p. refl;
      put_sized = λ l p e h. record {
        certificates = h.certificates;
        cards = h.cards;
        executables = omega arith;
        some_action = h.some_action;
        actions = h.actions;
      };
      ids_distinct = λ s a. (accepted_out s a.accepted).1.ids;
    }
