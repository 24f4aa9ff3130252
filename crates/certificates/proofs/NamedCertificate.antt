-- An event on the certificate that it names: from the rows to its plan, and from the plan to the slot. Assumes nothing.
use Prim.Native.Nat.{ℕ, ◌<◌}
use mathlib.Core.{Bool.{Bool, true, false, not}, List.{List, [], ◌∷◌, ◌++◌}, Logic.◌≢◌, Path.{◌≡◌, refl, sym, ap, subst, ◌∙◌}}
use native.Mathlib.Omega.{arith}
use lib.{Dec.T, ListN.{length, get_or, drop}}
use Rattle.std.specs.Prelude.{Result, Ok, Err, ⊤}
use Rattle.records.specs.{Phone.{Phone, decode, no_certificate, certificate_at}, declared.Certificate.Certificate, declared.Event.Event}
use Rattle.rules.specs.{Words.{Check, ◌⇒◌, first, first_place}, Chains.present, ImageRules.slot_fits, Forms.{with_kind, forms, no_form}}
use Rattle.rules.specs.{Codes.{has_id, names_certificate, certificate_known, certificate_named, code_of}, AcceptedImage.AcceptedImage}
use Rattle.handling.specs.{declared.Refusal.Refusal, RefusalCodes.by_code, Plans.{plan, on_certificate, allowed_rows, certificate_rows}}
use Rattle.laws.proofs.{Accepts.accepted_out, Slots.mem_at, Fits.slot_in}
use Rattle.handling.proofs.{Decided.{refused_first, refused_next}, Handles.named_id, Named.certificate_here}
use Rattle.handling.proofs.PlanLaws.{plan_refused, plan_on, reason_not_0, refused_code, on_code, on_slot, certificate_within, stands, decides}
use Rattle.lookup.proofs.FirstWithin.{first_within}
use Rattle.certificates.specs.{Decisions.{allowed_plan, absent_rows, PresentAt}, StoredCertificate.NamedAt}

abbrev pub place : Phone → Event → ℕ
place p e = first_place (has_id e.id) p.trust.certificates

-- the rows on the certificate let it be about slot i, where the certificate is present
pub record LetBe (k : ℕ) (nobody : Bool) (p : Phone) (e : Event) (i : ℕ) : Type 0 where
  none : first (certificate_rows k nobody p e) ≡ 0
  slot : i ≡ place p e
  pub within : i < length p.trust.certificates
  there : present p.trust.seen (certificate_at p i) ≡ true

known : (b : Bool) (l : List Check) → first ((not b ⇒ 3) ∷ l) ≡ 0 → b ≡ true
unfolding first
known true l z = refl
known false l z = absurd (omega (arith, z))

unbarred : (b : Bool) → first ((not b ⇒ 8) ∷ []) ≡ 0 → b ≡ true
unfolding first
unbarred true z = refl
unbarred false z = absurd (omega (arith, z))

-- the rows of who is allowed have decided r; behind those on the certificate come the rows m
module _ (k : ℕ) (nobody : Bool) (p : Phone) (e : Event) {r : Result ℕ Refusal} (rows : by_code r ≡ allowed_plan k nobody p e) where
  pub not_allowed : (m : List Check) {why : Refusal} → r ≡ Err why → by_code (Err why) ≡ plan (first (certificate_rows k nobody p e ++ m)) (place p e)
  not_allowed m u = refused_first (allowed_rows k nobody p e) (absent_rows p (certificate_named p e.id) ++ m) (place p e) rows u

  -- they let it be about slot i
  module _ {i : ℕ} (on : r ≡ Ok i) where
    let_slot : i ≡ place p e
    let_slot = on_slot (first (allowed_rows k nobody p e)) (place p e) rows on

    pub allowed_within : i < length p.trust.certificates
    unfolding certificate_known
    allowed_within =
        first_within (has_id e.id) p.trust.certificates let_slot
        (known (certificate_known p e.id) (drop 1 (allowed_rows k nobody p e)) (on_code (first (allowed_rows k nobody p e)) (place p e) rows on))

    asked : first (absent_rows p (certificate_at p i)) ≡ first (absent_rows p (certificate_named p e.id))
    asked = ap (λ c. first (absent_rows p c)) (certificate_here p e.id let_slot refl)

    -- whether the certificate there is present is t
    module _ {t : Result ⊤ Refusal} (there : by_code t ≡ plan (first (absent_rows p (certificate_at p i))) tt) where
      pub absent : (m : List Check) {why : Refusal} → t ≡ Err why → by_code (Err why) ≡ plan (first (certificate_rows k nobody p e ++ m)) (place p e)
      absent m {why} u =
          let n = reason_not_0 why in
          refused_next (allowed_rows k nobody p e) (absent_rows p (certificate_named p e.id) ++ m) (place p e) rows tt on n
          (stands (absent_rows p (certificate_named p e.id)) m (refused_code (first (absent_rows p (certificate_at p i))) tt there u ∙ asked) n)

      pub let_be : {x : ⊤} → t ≡ Ok x → LetBe k nobody p e i
      let_be u =
          record {
            none =
                sym (sym (on_code (first (absent_rows p (certificate_at p i))) tt there u) ∙ asked
                ∙ decides (allowed_rows k nobody p e) (absent_rows p (certificate_named p e.id)) tt refl
                (on_code (first (allowed_rows k nobody p e)) (place p e) rows on));
            slot = let_slot;
            within = allowed_within;
            there =
                unbarred (present p.trust.seen (certificate_at p i)) (on_code (first (absent_rows p (certificate_at p i))) tt there u);
          }

-- the rows on the certificate let the event be about slot i
module _ {k : ℕ} {nobody : Bool} {p : Phone} {e : Event} {i : ℕ} (o : LetBe k nobody p e i) where
  pub let_present : PresentAt p i
  let_present = record { within = o.within; there = o.there }

  pub let_named : {c : Certificate} → c ≡ certificate_at p i → c ≡ certificate_named p e.id
  let_named = certificate_here p e.id o.slot

  abbrev on_it : List Check
  on_it = certificate_rows k nobody p e

  -- and the rows m decide
  module _ (m : List Check) where
    pub rest_refuses : {c : ℕ} → c ≢ 0 → c ≡ first m → Err c ≡ plan (first (on_it ++ m)) (place p e)
    rest_refuses n t = plan_refused (first (on_it ++ m)) (place p e) (omega arith) (t ∙ decides on_it m tt refl o.none)

    pub rest_lets : 0 ≡ first m → Ok i ≡ plan (first (on_it ++ m)) (place p e)
    rest_lets t = plan_on (first (on_it ++ m)) (place p e) o.slot (t ∙ decides on_it m tt refl o.none)

  -- which are judged by the certificate in the slot
  module _ (m : Certificate → List Check) {t : Result ⊤ Refusal} (judged : by_code t ≡ plan (first (m (certificate_at p i))) tt) where
    pub judge_refuses : {why : Refusal} → t ≡ Err why → by_code (Err why) ≡ plan (first (on_it ++ m (certificate_named p e.id))) (place p e)
    judge_refuses {why} u =
        rest_refuses (m (certificate_named p e.id)) (reason_not_0 why)
        (refused_code (first (m (certificate_at p i))) tt judged u ∙ ap (λ c. first (m c)) (let_named refl))

    pub judge_lets : {x : ⊤} → t ≡ Ok x → Ok i ≡ plan (first (on_it ++ m (certificate_named p e.id))) (place p e)
    judge_lets u =
        rest_lets (m (certificate_named p e.id)) (sym (on_code (first (m (certificate_at p i))) tt judged u) ∙ ap (λ c. first (m c)) (let_named refl))

-- ---- the event is done

-- it is about slot i
pub record About (k : ℕ) (p : Phone) (e : Event) (i : ℕ) : Type 0 where
  pub code : code_of p (with_kind k e) ≡ 0
  pub named : NamedAt p e i

module _ (k : ℕ) (p : Phone) (e : Event) (h : T (names_certificate k)) (f : T (get_or forms k no_form p (with_kind k e)) → e.id ≢ 0) where
  pub about : {r : Result ℕ Refusal} → by_code r ≡ on_certificate k p e → {i : ℕ} → r ≡ Ok i → About k p e i
  about q on =
      let z = on_code (code_of p (with_kind k e)) (place p e) q on in
      let s = on_slot (code_of p (with_kind k e)) (place p e) q on in
      record {
        code = z;
        named =
            record {
              first = s;
              within = subst (λ n. n < length p.trust.certificates) (sym s) (certificate_within p e k z h);
              id_nonzero = named_id p e k z f;
            };
      }

pub about_named : {k : ℕ} {p : Phone} {e : Event} {i : ℕ} → About k p e i → {c : Certificate} → c ≡ certificate_at p i → c ≡ certificate_named p e.id
about_named {k} {p} {e} a = certificate_here p e.id a.named.first

-- ---- a record that was read at a slot with a certificate that is present

pub read_fits : {l : List ℕ} {i : ℕ} {c : Certificate} → AcceptedImage l → PresentAt (decode l) i → c ≡ certificate_at (decode l) i → T (slot_fits c)
read_fits {l} {i} a h q =
    let held = (accepted_out l a.accepted).1.trust.held in
    subst (λ x. T (slot_fits x)) (sym q) (slot_in _ (held.slots _ (mem_at (decode l).trust.certificates i no_certificate h.within)))

pub read_there : {p : Phone} {i : ℕ} {c : Certificate} → PresentAt p i → c ≡ certificate_at p i → present p.trust.seen c ≡ true
read_there {p} h q = ap (present p.trust.seen) q ∙ h.there
