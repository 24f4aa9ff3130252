-- 02, item 7: what is said of an event by somebody in particular. Definitions only.
use Rattle.std.specs.Prelude.{ℕ, ◌<◌}
use mathlib.Core.{List.{List, [], ◌∷◌}, Path.◌≡◌}
use Rattle.std.specs.Prelude.{T}
use Rattle.records.specs.{Phone.{decode, marked}, declared.Certificate.Certificate, declared.Event.Event}
use Rattle.rules.specs.{Actors.somebody, Codes.{certificate_named, code}, Effects.phone_operator_root, Step.step}
use Rattle.keeping.specs.OneEvent.{event_of}

-- a certificate slot before (c) and after (d) an event at this time: kept, or of the owner who acts
pub data OwnerKept (clock : ℕ) (e : Event) (c d : Certificate) : Type 0 where
  same : d ≡ c → OwnerKept clock e c d
  own : c.owner ≡ e.owner → OwnerKept clock e c d
  -- 01, 7: a root on a card that is marked valid takes the marks of the operator roots on the phone, of another owner those past their date
  outdated : e.kind ≡ 7 → T (phone_operator_root c) → c.expiry < clock → d ≡ marked 0 c → OwnerKept clock e c d

-- "the owner field .. names who acts, and it must equal the certificate's owner"
abbrev pub AsOwner : List ℕ → List ℕ → Type 0
AsOwner l v = code l v ≡ 0 → T (somebody (event_of v)) → (certificate_named (decode l) (event_of v).id).owner ≡ (event_of v).owner

-- in a run, each in the state that it meets
abbrev pub AsOwners : List ℕ → List (List ℕ) → Type 0
AsOwners l [] = Unit {0}
AsOwners l (v ∷ vs) = AsOwner l v × AsOwners (step l v).image vs
