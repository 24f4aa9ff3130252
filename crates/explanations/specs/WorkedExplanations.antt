-- Explanations of images of 01, computed. Assumes nothing.
use mathlib.Core.{Bool.true, List.{List, [], ◌∷◌}, Path.{◌≡◌, refl}}
use Rattle.std.specs.Prelude.{take, ℕ}
use Rattle.records.specs.{Phone.{Trust, decode, no_certificate}, declared.Certificate.Certificate, declared.Executable.Executable}
use Rattle.rules.specs.{Words.◌⇒◌, Step.run, Computing.computing, WorkedRun.{image, events, chains_image}}
use Rattle.explanations.specs.Why.{lowest, by_id, holders, climb, chain_told, reasons, reason, line, chained, unsigned, held, despite, explained}
use Rattle.explanations.specs.Why.{explanation, said_link, said_unsigned, said_unheld, said_untrusted, said_recovery, said_absent, said_invalid}
use Rattle.explanations.specs.Why.{said_disabled, said_past, said_unserved}

-- a certificate of domain 3 and an executable, with what varies between the examples; a trust with no card, at clock 0
abbrev pub root : ℕ → ℕ → ℕ → ℕ → Certificate
root i p m k = record { id = i; place = p; kind = 0; domain = 3; mark = m; enabled = 1; key = k; verifying = 0; owner = 1; expiry = 0 }

abbrev pub issued : ℕ → ℕ → ℕ → Certificate
issued i k v = record { id = i; place = 0; kind = 1; domain = 3; mark = 1; enabled = 1; key = k; verifying = v; owner = 1; expiry = 0 }

-- "phone only, domain 1 or 2, verifying key 0, mark 0, enabled 1"
abbrev pub recovery : ℕ → ℕ → Certificate
recovery i k = record { id = i; place = 0; kind = 2; domain = 2; mark = 0; enabled = 1; key = k; verifying = 0; owner = 1; expiry = 0 }

abbrev pub signed_by : ℕ → Executable
signed_by k = record { id = 1; domain = 0; blank = 0; signing = k; permissions = 0 }

abbrev pub holding : List Certificate → Trust
holding l = record { seen = record { clock = 0; card = 0 }; certificates = l }

-- every definition of `Why` under one name
unfoldable pub telling : Unit {0}
unfolding computing lowest by_id holders climb chain_told reason chained unsigned held despite explained explanation
telling = tt

pub trusted : explanation (decode image) 1 ≡ (line said_link 10 ∷ line said_link 11 ∷ [])
unfolding telling
trusted = refl

pub expired : explanation (decode (run image (take 4 events))) 1 ≡ (line said_past 11 ∷ [])
unfolding telling
expired = refl

pub four : explanation (decode chains_image) 1 ≡ (line said_link 1 ∷ line said_link 2 ∷ line said_link 3 ∷ line said_link 4 ∷ line said_untrusted 1 ∷ [])
unfolding telling
four = refl

pub five : explanation (decode chains_image) 2 ≡ (line said_unserved 5 ∷ [])
unfolding telling
five = refl

-- twins in falling slots: at each link the lower id, whatever the slot
pub twins : explained (holding (issued 9 5 6 ∷ issued 4 5 6 ∷ root 8 0 1 6 ∷ root 3 0 1 6 ∷ [])) (signed_by 5)
    ≡ (line said_link 3 ∷ line said_link 4 ∷ line said_untrusted 1 ∷ [])
unfolding telling
twins = refl

-- a root has the key too: one link is shorter than two, though its id is higher
pub shorter : explained (holding (issued 4 5 6 ∷ root 3 0 1 6 ∷ root 9 0 1 5 ∷ [])) (signed_by 5) ≡ (line said_link 9 ∷ line said_untrusted 1 ∷ [])
unfolding telling
shorter = refl

-- an invalid one on an absent card is on an absent card; records with the key are told in order of id
pub refused : explained (holding (root 9 0 0 5 ∷ no_certificate ∷ root 4 2 0 5 ∷ issued 7 5 8 ∷ [])) (signed_by 5)
    ≡ (line said_absent 4 ∷ line said_unserved 7 ∷ line said_invalid 9 ∷ [])
unfolding telling
refused = refl

-- a recovery key is told as such, though it is marked invalid and nothing verifies it
pub recovered : explained (holding (root 9 0 1 6 ∷ recovery 40 5 ∷ [])) (signed_by 5) ≡ (line said_recovery 40 ∷ [])
unfolding telling
recovered = refl

-- a recovery key of which every other reason holds as well: on an absent card, disabled, and at a clock past its date
abbrev pub hopeless : Certificate
hopeless = record { id = 40; place = 2; kind = 2; domain = 2; mark = 0; enabled = 0; key = 5; verifying = 0; owner = 1; expiry = 0 }

abbrev pub hopeless_alone : Trust
hopeless_alone = record { seen = record { clock = 1; card = 0 }; certificates = hopeless ∷ [] }

pub every_reason : reasons hopeless_alone hopeless
    ≡ (
    (true ⇒ said_recovery)
    ∷ (true ⇒ said_absent)
    ∷ (true ⇒ said_invalid)
    ∷ (true ⇒ said_disabled)
    ∷ (true ⇒ said_past)
    ∷ (true ⇒ said_unserved)
    ∷ []
    )
unfolding telling
every_reason = refl

pub before_others : explained hopeless_alone (signed_by 5) ≡ (line said_recovery 40 ∷ [])
unfolding telling
before_others = refl

-- an unsigned executable, and one whose key nobody holds; a free slot has key 0 and is nobody
pub nobody : explained (holding (no_certificate ∷ root 9 0 1 5 ∷ [])) (signed_by 0) ≡ (line said_unsigned 1 ∷ [])
unfolding telling
nobody = refl

pub unheld : explained (holding (no_certificate ∷ root 9 0 1 5 ∷ [])) (signed_by 6) ≡ (line said_unheld 1 ∷ [])
unfolding telling
unheld = refl
