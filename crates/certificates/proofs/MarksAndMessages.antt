-- What an event about certificates leaves to settle: nothing, or the domain of the certificate that it names. Assumes nothing.
use Prim.Native.Nat.{ℕ, ◌<◌}
use mathlib.Core.{Bool.false, List.List, Path.{◌≡◌, ap, ◌∙◌}}
use native.Mathlib.Omega.{arith}
use Rattle.records.specs.{Phone.{Phone, no_certificate, marked, decode, encode}, declared.Certificate.Certificate, declared.Event.Event}
use Rattle.rules.specs.{Words.any, Forms.{with_kind, new_certificate}, Codes.certificate_named}
use Rattle.rules.specs.Effects.{effect, changed, install_certificate, on_a_card, mark_valid, enabled_by, message, delete_certificate, mark_invalid, replaced}
use Rattle.rules.specs.Effects.{replace}
use Rattle.laws.proofs.Accepted.{Accepted}
use Rattle.chain.specs.{Breaks.disables, Settling.settle_in}
use Rattle.certificates.specs.StoredCertificate.{stored}
use Rattle.chain.proofs.{Still.{filling_still, marking_still, enabling_still}, Own.own_settles}

module _ (p : Phone) (ok : Accepted p) (e : Event) where
  pub certificate_still : changed (with_kind 5 e) p ≡ effect (with_kind 5 e) p
  unfolding changed effect
  certificate_still = filling_still p ok (with_kind 5 e)

  pub mark_still : on_a_card (certificate_named p e.id) ≡ false → changed (with_kind 7 e) p ≡ effect (with_kind 7 e) p
  unfolding changed effect mark_valid
  mark_still h = marking_still p ok e h

  pub message_still : any (disables e) p.trust.certificates ≡ false → changed (with_kind 9 e) p ≡ effect (with_kind 9 e) p
  unfolding changed effect message enabled_by
  message_still h = enabling_still p ok e h

module _ (p : Phone) (ok : Accepted p) (e : Event) (nz : 0 < e.id) {c : Certificate} (named : c ≡ certificate_named p e.id) where
  pub delete_own : settle_in c.domain (effect (with_kind 6 e) p) ≡ changed (with_kind 6 e) p
  unfolding changed effect delete_certificate
  delete_own =
      ap (λ x. settle_in x.domain (effect (with_kind 6 e) p)) named ∙ own_settles p ok e.id (λ z. omega arith) (λ c. no_certificate)

  pub invalid_own : settle_in c.domain (effect (with_kind 8 e) p) ≡ changed (with_kind 8 e) p
  unfolding changed effect mark_invalid
  invalid_own = ap (λ x. settle_in x.domain (effect (with_kind 8 e) p)) named ∙ own_settles p ok e.id (λ z. omega arith) (marked 0)

  pub replace_own : settle_in c.domain (effect (with_kind 16 e) p) ≡ changed (with_kind 16 e) p
  unfolding changed effect replace
  replace_own = ap (λ x. settle_in x.domain (effect (with_kind 16 e) p)) named ∙ own_settles p ok e.id (λ z. omega arith) (replaced (with_kind 16 e))

-- c is the certificate that the event makes under mode m
pub installed : (l : List ℕ) (e : Event) {c : Certificate} {m : ℕ} → c ≡ new_certificate m e → m ≡ (decode l).mode
    → {l₁ : List ℕ} → l₁ ≡ encode (stored c (decode l)) → l₁ ≡ encode (effect (with_kind 5 e) (decode l))
unfolding effect install_certificate new_certificate
installed l e q i j = j ∙ ap (λ x. encode (stored x (decode l))) (q ∙ ap (λ n. new_certificate n e) i)
