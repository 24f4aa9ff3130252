-- What is decided of an event about certificates, step by step. Definitions only.
use Rattle.std.specs.Prelude.{ℕ, ◌<◌, Result}
use mathlib.Core.{Bool.{Bool, true, not, ◌&&◌}, List.{List, [], ◌∷◌}, Path.◌≡◌}
use lib.{Dec.eqb, ListN.length}
use Rattle.records.specs.{Phone.{Phone, certificate_at}, declared.Certificate.Certificate, declared.Event.Event}
use Rattle.rules.specs.{Words.{any, Check, ◌⇒◌, first, first_place}, Chains.present, ImageRules.{operator_of, operator_root, third_party_root}, Forms.listed}
use Rattle.rules.specs.Codes.{has_id, certificate_known, certificate_named}
use Rattle.handling.specs.Plans.{plan, allowed_rows}

-- 11: c is "an operator root on a card of another operator"
abbrev pub of_other_card : Phone → Certificate → Bool
of_other_card p c = operator_root c && not (eqb c.place 0) && not (eqb c.owner (operator_of p.cards c.place))

-- 11: c is one "on the phone while a card of another operator is present"
abbrev pub of_other_operator : Phone → Certificate → Bool
of_other_operator p c =
    let card = p.trust.seen.card in
    operator_root c && eqb c.place 0 && not (eqb card 0) && not (eqb c.owner (operator_of p.cards card))

-- the plan of an event of kind k on the certificate that it names, whatever its form, as far as who is allowed; it may be that nobody is
abbrev pub allowed_plan : ℕ → Bool → Phone → Event → Result ℕ ℕ
allowed_plan k nobody p e = plan (first (allowed_rows k nobody p e)) (first_place (has_id e.id) p.trust.certificates)

-- 8: c is "on a card that is not present"
abbrev pub absent_rows : Phone → Certificate → List Check
absent_rows p c = (not (present p.trust.seen c) ⇒ 8) ∷ []

-- a slot with a certificate that is present
pub record PresentAt (p : Phone) (slot : ℕ) : Type 0 where
  pub within : slot < length p.trust.certificates
  pub there : present p.trust.seen (certificate_at p slot) ≡ true

-- 3: a message lists one that is unknown; or else whether it lists one that is no third party root, which is 12
abbrev pub listed_plan : Phone → Event → Result Bool ℕ
listed_plan p e =
    plan (first ((any (λ n. not (certificate_known p n)) (listed e) ⇒ 3) ∷ [])) (any (λ n. not (third_party_root (certificate_named p n))) (listed e))
