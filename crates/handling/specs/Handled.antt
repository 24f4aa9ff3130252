-- What the handler of a kind promises. Definitions only.
use Rattle.std.specs.Prelude.{ℕ, eqb, Result}
use mathlib.Core.{Bool.cond, List.List, Path.◌≡◌}
use Rattle.records.specs.{Phone.{Phone, decode, encode}, declared.Event.Event}
use Rattle.rules.specs.{declared.Answer.Answer, Codes.code_of, Effects.{settle, changed}, Step.{refused, answer_done, done}}
use Rattle.handling.specs.{declared.Refusal.Refusal, RefusalCodes.by_code, Plans.plan}

-- what an event of the right length is told on an accepted image, and the image that it leaves
abbrev pub told : Phone → Event → Answer
told p e = cond (eqb (code_of p e) 0) (done e (changed e p)) (refused (code_of p e))

abbrev pub left : List ℕ → Event → List ℕ
left l e = cond (eqb (code_of (decode l) e) 0) (encode (changed e (decode l))) l

pub record Handled (l : List ℕ) (e : Event) (r : Answer) (l' : List ℕ) : Type 0 where
  pub answer : r ≡ told (decode l) e
  pub image : l' ≡ left l e

-- what the handler of a kind answers: the answer of an event that is done, or why it is refused
pub record Tried (l : List ℕ) (e : Event) (r : Result Answer Refusal) (l' : List ℕ) : Type 0 where
  pub answer : by_code r ≡ plan (code_of (decode l) e) (done e (changed e (decode l)))
  pub image : l' ≡ left l e

-- "After every accepted event": an event that is done without a domain to tell, and the image settled
pub record Settled (l : List ℕ) (r : Answer) (l' : List ℕ) : Type 0 where
  pub answer : r ≡ answer_done 0 0
  pub image : l' ≡ encode (settle (decode l))
