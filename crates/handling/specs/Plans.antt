-- What is decided of an event before anything is written: its code, or the slot that it is about. Definitions only.
use Rattle.std.specs.Prelude.{ℕ, Result, Ok, Err}
use mathlib.Core.{Bool.{Bool, cond, not, ◌&&◌, ◌||◌}, List.{List, [], ◌∷◌, ◌++◌}}
use Rattle.std.specs.Prelude.{eqb}
use Rattle.records.specs.{Phone.Phone, declared.Event.Event}
use Rattle.rules.specs.{Words.{Check, ◌⇒◌, first_place}, Chains.present, Actors.{may_act, acts_for}, Forms.with_kind}
use Rattle.rules.specs.Codes.{has_id, is_executable, certificate_named, certificate_known, executable_known, code_of}

-- refused by a code that is not 0, or what it is about: a slot
unfoldable pub plan : {A : Type 0} → ℕ → A → Result A ℕ
plan code about = cond (eqb code 0) (Ok about) (Err code)

-- ---- for e as an event of kind k

-- about the certificate that it names, and about a free slot for one
abbrev pub on_certificate : ℕ → Phone → Event → Result ℕ ℕ
on_certificate k p e = plan (code_of p (with_kind k e)) (first_place (has_id e.id) p.trust.certificates)

abbrev pub for_certificate : ℕ → Phone → Event → Result ℕ ℕ
for_certificate k p e = plan (code_of p (with_kind k e)) (first_place (has_id 0) p.trust.certificates)

-- about the executable that it names, and about a free slot for one
abbrev pub on_executable : ℕ → Phone → Event → Result ℕ ℕ
on_executable k p e = plan (code_of p (with_kind k e)) (first_place (is_executable e.id) p.executables)

abbrev pub for_executable : ℕ → Phone → Event → Result ℕ ℕ
for_executable k p e = plan (code_of p (with_kind k e)) (first_place (is_executable 0) p.executables)

-- ---- what stands against an event of kind k on the record that it names, besides its form

-- the certificate is known, and the actor is allowed to; it may be that nobody is
abbrev pub allowed_rows : ℕ → Bool → Phone → Event → List Check
allowed_rows k nobody p e =
    (not (certificate_known p e.id) ⇒ 3)
    ∷ (not (may_act k (certificate_named p e.id).domain e.actor && acts_for (with_kind k e) (certificate_named p e.id)) || nobody ⇒ 4)
    ∷ []

-- and it is present
abbrev pub certificate_rows : ℕ → Bool → Phone → Event → List Check
certificate_rows k nobody p e = allowed_rows k nobody p e ++ ((not (present p.trust.seen (certificate_named p e.id)) ⇒ 8) ∷ [])

abbrev pub executable_rows : ℕ → Phone → Event → List Check
executable_rows k p e = (not (executable_known p e.id) ⇒ 3) ∷ (not (may_act k 0 e.actor) ⇒ 4) ∷ []
