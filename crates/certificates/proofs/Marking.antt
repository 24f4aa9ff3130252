-- A certificate marked valid by a write to its slot; where it is a card's operator root, those on the phone are retired first. Assumes nothing.
use Prim.Native.Nat.{ℕ, ◌<◌}
use mathlib.Core.{Bool.{Bool, true, false, cond, ◌&&◌}, List.{List, map, map-map, map_congr_left}, Path.{◌≡◌, refl, sym, ap, ◌∙◌, subst}}
use native.Mathlib.Omega.{arith}
use lib.{Dec.{T, eqb→eq}, ListN.{length, get_or, length-map, get_or-map}}
use Rattle.records.specs.{Phone.{decode, encode, no_certificate, certificate_at, with_certificates, put_certificate, marked}, Frame.Framed}
use Rattle.records.specs.{declared.Certificate.Certificate, declared.Event.Event}
use Rattle.rules.specs.{Words.{at, change, distinct}, Codes.{has_id, certificate_named}}
use Rattle.rules.specs.{Effects.{phone_operator_root, on_a_card, after_marking, mark_valid}, AcceptedImage.AcceptedImage}
use Rattle.laws.proofs.{Slots.set_is, Tables.{certificates, says, framed_as}}
use Rattle.handling.specs.Retiring.{outgoing, retire}
use Rattle.certificates.specs.StoredCertificate.{NamedAt}
use Rattle.handling.proofs.SlotWrites.{passes_there, find_there, write_is_change}

-- ---- one certificate

alone : (n : ℕ) (r c : Certificate) → on_a_card r ≡ false → at (has_id n) (marked 1) c ≡ after_marking n r c
unfolding after_marking
alone n r c h = rw h

after_retiring : (n : ℕ) (r c : Certificate) → on_a_card r ≡ true → at (has_id n) (marked 1) (retire true 0 c) ≡ after_marking n r c
unfolding after_marking outgoing
after_retiring n r c h = rw h (go (phone_operator_root c))
  where
    go : (b : Bool) → at (has_id n) (marked 1) (cond (b && true) (marked 0 c) c) ≡ cond (has_id n c) (marked 1 c) (cond (true && b) (marked 0 c) c)
    go true = refl
    go false = refl

retire_keeps_id : (c : Certificate) → (retire true 0 c).id ≡ c.id
retire_keeps_id c = go (outgoing true 0 c)
  where
    go : (b : Bool) → (cond b (marked 0 c) c).id ≡ c.id
    go true = refl
    go false = refl

-- ---- all of them

-- slots mapped by f are as many
pub mapped_framed : (f : Certificate → Certificate) {s s₁ : List ℕ} {slot : ℕ} → Framed s → slot < length (decode s).trust.certificates
    → s₁ ≡ encode (with_certificates (map f (decode s).trust.certificates) (decode s)) → Framed s₁ × (slot < length (decode s₁).trust.certificates)
mapped_framed f {s} {s₁} {slot} g h w =
    let l = (decode s).trust.certificates in
    let q = with_certificates (map f l) (decode s) in (
      framed_as q w (certificates.put_sized (map f l) (decode s) (length-map l f) g.sized),
      subst (λ p. slot < length p.trust.certificates) (sym (says q w)) (subst (λ n. slot < n) (sym (length-map l f)) h),
    )

module _ {s : List ℕ} {slot : ℕ} (e : Event) (a : AcceptedImage s) (n : NamedAt (decode s) e slot) where
  -- y is written there, which f makes of it
  pub named_written : (f : Certificate → Certificate) {y : Certificate} {s' : List ℕ} → y ≡ f (certificate_at (decode s) slot)
      → s' ≡ encode (put_certificate slot y (decode s))
      → s' ≡ encode (with_certificates (change (has_id e.id) f (decode s).trust.certificates) (decode s))
  named_written f q w = write_is_change certificates e.id f a n.first n.within n.id_nonzero q w

  -- the certificate that the event names is what stands in the slot
  pub named : (b : Bool) {c : Certificate} → c ≡ certificate_at (decode s) slot → on_a_card c ≡ b → on_a_card (certificate_named (decode s) e.id) ≡ b
  unfolding certificate_named
  named b q h =
      ap on_a_card (find_there (has_id e.id) no_certificate (decode s).trust.certificates slot n.first n.within ∙ sym q) ∙ h

  pub marks_alone : {s' : List ℕ} {c : Certificate} → c ≡ certificate_at (decode s) slot → on_a_card c ≡ false
      → s' ≡ encode (put_certificate slot (marked 1 (certificate_at (decode s) slot)) (decode s)) → s' ≡ encode (mark_valid e (decode s))
  unfolding mark_valid
  marks_alone q h w =
      let p = decode s in
      let r = certificate_named p e.id in
      named_written (marked 1) refl w
      ∙ ap (λ l. encode (with_certificates l p))
      (map_congr_left {f = at (has_id e.id) (marked 1)} {g = after_marking e.id r} {l = p.trust.certificates}
      (λ x m. alone e.id r x (named false q h)))

  retired_ids : T (distinct (map (λ c. c.id) (map (retire true 0) (decode s).trust.certificates)))
  retired_ids =
      let l = (decode s).trust.certificates in
      subst (λ i. T (distinct i))
      (sym (map-map (λ c. c.id) (retire true 0) l ∙ map_congr_left {f = λ c. (retire true 0 c).id} {g = λ c. c.id} {l = l} (λ x m. retire_keeps_id x)))
      (certificates.ids_distinct s a)

  retired_id : (get_or (map (retire true 0) (decode s).trust.certificates) slot no_certificate).id ≡ e.id
  unfolding outgoing
  retired_id =
      let l = (decode s).trust.certificates in
      ap (λ c. c.id) (get_or-map (retire true 0) l slot no_certificate) ∙ retire_keeps_id (get_or l slot no_certificate)
      ∙ eqb→eq (get_or l slot no_certificate).id e.id (passes_there (has_id e.id) no_certificate l slot n.first n.within)

  pub marks_after_retiring : {s₁ s' : List ℕ} {c : Certificate} → c ≡ certificate_at (decode s) slot → on_a_card c ≡ true
      → s₁ ≡ encode (with_certificates (map (retire true 0) (decode s).trust.certificates) (decode s))
      → s' ≡ encode (put_certificate slot (marked 1 (certificate_at (decode s₁) slot)) (decode s₁)) → s' ≡ encode (mark_valid e (decode s))
  unfolding mark_valid
  marks_after_retiring q h v w =
      let p = decode s in
      let r = certificate_named p e.id in
      let l = p.trust.certificates in
      let m = map (retire true 0) l in
      let mark = at (has_id e.id) (marked 1) in
      let in-m : slot < length m = subst (λ n. slot < n) (sym (length-map l (retire true 0))) n.within in
      w ∙ ap (λ u. encode (put_certificate slot (marked 1 (certificate_at u slot)) u)) (says (with_certificates m p) v)
      ∙ ap (λ l. encode (with_certificates l p))
      (sym (set_is (λ c. c.id) e.id (marked 1) no_certificate m slot in-m retired_id (let z = n.id_nonzero in λ y. omega arith) retired_ids)
      ∙ map-map mark (retire true 0) l
      ∙ map_congr_left {f = λ c. mark (retire true 0 c)} {g = after_marking e.id r} {l = l} (λ x i. after_retiring e.id r x (named true q h)))
