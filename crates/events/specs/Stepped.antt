-- What one step promises. Definitions only.
use Rattle.std.specs.Prelude.{ℕ}
use mathlib.Core.{List.List, Path.◌≡◌}
use Rattle.rules.specs.{declared.Answer.Answer, Step.step, AcceptedImage.AcceptedImage}

-- any bytes of an image and of an event: the answer and the image of the rules
pub record Stepped (l v : List ℕ) (r : Answer) (l' : List ℕ) : Type 0 where
  pub answer : r ≡ (step l v).answer
  pub image : l' ≡ (step l v).image

-- the same on an image that is known to be accepted, which it then still is
pub record SteppedAccepted (l v : List ℕ) (r : Answer) (l' : List ℕ) : Type 0 where
  pub stepped : Stepped l v r l'
  pub accepted : AcceptedImage l'
