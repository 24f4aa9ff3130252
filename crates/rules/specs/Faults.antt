-- 02, item 1: the first broken rule of an image, and where it is broken. Definitions only.
use Rattle.std.specs.Prelude.{ℕ, zero, suc}
use mathlib.Core.{Bool.{Bool, cond, not}, List.{List, [], ◌∷◌}}
use Rattle.std.specs.Prelude.{length, get_or, take}
use Rattle.records.specs.Phone.{Phone, decode, with_certificates, with_executables, certificate_offset, card_offset, executable_offset, row_offset}
use Rattle.records.specs.{Frame.header_fault, declared.Certificate.Certificate, declared.Executable.Executable}
use Rattle.rules.specs.{declared.Site.Site, declared.Fault.Fault, Words.all}
use Rattle.rules.specs.ImageRules.{cards_fit, present_known, places_known, row_fits, i2, i4, i5, i7, i8, broken}

-- the first number below n that passes, and n where none does
unfoldable pub first_number : ℕ → (ℕ → Bool) → ℕ
first_number zero f = 0
first_number (suc n) f = cond (f 0) 0 (suc (first_number n (λ k. f (suc k))))

-- "the lowest record that breaks the rule alone or together with lower ones": the first that the records up to it,
-- without those above it, do not keep the rule with; the number of records where they keep it
unfoldable pub lowest : {A : Type 0} → (List A → Bool) → List A → ℕ
lowest rule l = first_number (length l) (λ i. not (rule (take (suc i) l)))

-- a rule of a phone, asked of other certificate slots, and of other executable slots
abbrev pub of_certificates : (Phone → Bool) → Phone → List Certificate → Bool
of_certificates rule p l = rule (with_certificates l p)

abbrev pub of_executables : (Phone → Bool) → Phone → List Executable → Bool
of_executables rule p l = rule (with_executables l p)

-- ---- where a rule is broken

abbrev pub certificate_site : (Phone → Bool) → Phone → Site
certificate_site rule p = Site.Certificate (lowest (of_certificates rule p) p.trust.certificates)

abbrev pub executable_site : (Phone → Bool) → Phone → Site
executable_site rule p = Site.Executable (lowest (of_executables rule p) p.executables)

-- "For card present missing from the table, I3 names byte 12 before any record": then the certificates, which stand below the cards
unfoldable pub i3_site : Phone → Site
i3_site p =
    cond (not (present_known p)) (Site.Header 12)
    (cond (not (places_known p.cards p.trust.certificates))
    (Site.Certificate (lowest (places_known p.cards) p.trust.certificates))
    (Site.Card (lowest cards_fit p.cards)))

-- by rule, from 0 on: where none is broken, the first byte
abbrev pub sites : List ℕ → List Site
sites l =
    let p = decode l in
    Site.Header 0
    ∷ Site.Header (header_fault l)
    ∷ certificate_site i2 p
    ∷ i3_site p
    ∷ certificate_site i4 p
    ∷ certificate_site i5 p
    ∷ Site.Row (lowest (all row_fits) p.table)
    ∷ executable_site i7 p
    ∷ executable_site i8 p
    ∷ []

abbrev pub at_rule : ℕ → Site → Fault
at_rule rule site = record { rule = rule; site = site }

abbrev pub no_fault : Fault
no_fault = at_rule 0 (Site.Header 0)

-- "the first broken rule, 1 to 8", and where
unfoldable pub fault : List ℕ → Fault
fault l = at_rule (broken l) (get_or (sites l) (broken l) (Site.Header 0))

-- "a byte offset": the field's, or the first byte of the record
abbrev pub offset_of : Phone → Site → ℕ
offset_of p (Site.Header n) = n
offset_of p (Site.Certificate i) = certificate_offset i
offset_of p (Site.Card i) = card_offset p i
offset_of p (Site.Executable i) = executable_offset p i
offset_of p (Site.Row i) = row_offset p i

abbrev pub fault_offset : List ℕ → ℕ
fault_offset l = offset_of (decode l) (fault l).site
