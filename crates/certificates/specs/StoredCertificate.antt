-- What an event about certificates writes, and where. Definitions only.
use Rattle.std.specs.Prelude.{ℕ, ◌<◌, ◌≡◌, length}
use Rattle.records.specs.{Phone.{Phone, with_certificates}, declared.Certificate.Certificate, declared.Event.Event}
use Rattle.rules.specs.{Words.{fill, first_place}, ImageRules.free_certificate, Codes.has_id}

-- c in the lowest free slot
abbrev pub stored : Certificate → Phone → Phone
stored c p = with_certificates (fill free_certificate c p.trust.certificates) p

-- the certificate that e names stands in a slot, and it is a certificate: id 0 is that of a free slot
pub record NamedAt (p : Phone) (e : Event) (slot : ℕ) : Type 0 where
  pub first : slot ≡ first_place (has_id e.id) p.trust.certificates
  pub within : slot < length p.trust.certificates
  pub id_nonzero : 0 < e.id
