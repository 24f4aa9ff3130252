-- What stands against making a certificate valid, by marking it or by replacing it. Definitions only.
use mathlib.Core.{Bool.not, List.{List, [], ◌∷◌, ◌++◌}}
use Rattle.std.specs.Prelude.{ℕ, eqb, ltb, Result}
use Rattle.records.specs.{Phone.Phone, declared.Certificate.Certificate, declared.Event.Event}
use Rattle.rules.specs.{Words.{any, Check, ◌⇒◌, first, first_place}, Chains.in_date}
use Rattle.rules.specs.Codes.{has_id, certificate_named, in_another, rival, may_replace}
use Rattle.handling.specs.Plans.{plan, certificate_rows}
use Rattle.certificates.specs.Decisions.{of_other_operator}

-- of c being valid, besides what stands against any event on it and besides its date
abbrev pub validity_rows : Phone → Certificate → List Check
validity_rows p c =
    (of_other_operator p c ⇒ 11) ∷ (not (eqb c.kind 0) ⇒ 12) ∷ (any (rival p.trust.seen c) p.trust.certificates ⇒ 13) ∷ []

-- of marking c valid
abbrev pub marking_rows : Phone → Certificate → List Check
marking_rows p c = validity_rows p c ++ ((not (in_date p.trust.seen.clock c) ⇒ 18) ∷ [])

-- of replacing c by record r
abbrev pub replacing_rows : Phone → Event → Certificate → Certificate → List Check
replacing_rows p e c r =
    (any (in_another e.key c.domain) p.trust.certificates ⇒ 10)
    ∷ (validity_rows p c ++ ((not (may_replace e c r) ⇒ 17) ∷ (ltb e.expiry p.trust.seen.clock ⇒ 18) ∷ []))

-- the plan of replacing, by record r, the certificate that e names, whatever its form: "to nobody where either record is a third party one"
abbrev pub replace_plan : Phone → Event → Certificate → Result ℕ ℕ
replace_plan p e r =
    plan (first (certificate_rows 16 (eqb r.domain 3) p e ++ replacing_rows p e (certificate_named p e.id) r))
    (first_place (has_id e.id) p.trust.certificates)
