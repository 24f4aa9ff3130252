-- A refusal that a `?` passes on: it is the one that was met. Assumes nothing.
use Prim.Native.Nat.{ℕ}
use mathlib.Core.{List.List, Path.{◌≡◌, sym, ap, ◌∙◌}}
use Rattle.std.specs.{Prelude.{Result, Err}, Result.IsErrAnd}
use Rattle.records.specs.{Phone.decode, declared.Event.Event}
use Rattle.rules.specs.{declared.Answer.Answer, Codes.code_of}
use Rattle.handling.specs.{declared.Refusal.Refusal, RefusalCodes.{refusal_code, by_code}, Plans.plan, Handled.Tried}
use Rattle.handling.proofs.PlanLaws
use Rattle.handling.proofs.Handles.{tried_passed}

-- by a decision
pub passed_on : {A : Type 0} (r : Result A Refusal) (why : Refusal) → IsErrAnd r (λ y. y ≡ why) → {q : Result A ℕ} → Err (refusal_code why) ≡ q → by_code r ≡ q
passed_on r why h g = ap by_code (PlanLaws.passed_on h) ∙ g

-- by a handler, from its decision d
pub told_on : (r : Result Answer Refusal) (why : Refusal) → IsErrAnd r (λ y. y ≡ why)
    → {l : List ℕ} {e : Event} {A : Type 0} (about : A) {d : Result A Refusal} → by_code d ≡ plan (code_of (decode l) e) about → d ≡ Err why → Tried l e r l
told_on r why h about p i = tried_passed about why (ap by_code (sym i) ∙ p) h
