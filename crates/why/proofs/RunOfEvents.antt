-- Events that are stepped one after the other: none, one more, and no more than more of them. Assumes nothing.
use Prim.Native.Nat.{ℕ, ◌+◌}
use mathlib.Core.{List.{List, [], ◌∷◌, ◌++◌}, Path.{◌≡◌, refl, sym, ap, ◌∙◌}}
use native.Mathlib.Omega.{arith}
use lib.ListN.{length-append}
use Rattle.rules.specs.{declared.Answer.Answer, Step.{step, run}}
use Rattle.events.specs.Stepped.{SteppedAccepted}
use Rattle.why.specs.EventsRun.{RanAtMost}

run_append : (l : List ℕ) (vs ws : List (List ℕ)) → run l (vs ++ ws) ≡ run (run l vs) ws
unfolding run
run_append l [] ws = refl
run_append l (v ∷ vs) ws = run_append (step l v).image vs ws

pub ran_none : (l : List ℕ) → RanAtMost l 0 l
unfolding run
ran_none l = record { events = []; few = omega arith; image = refl }

pub ran_one_more : {l : List ℕ} {n : ℕ} {l' v l'' : List ℕ} {r : Answer} → RanAtMost l n l' → SteppedAccepted l' v r l'' → RanAtMost l (n + 1) l''
unfolding run
ran_one_more {l = l} {v = v} h s =
    record {
      events = h.events ++ (v ∷ []);
      few = omega (arith, length-append h.events (v ∷ []), h.few);
      image = s.stepped.image ∙ ap (λ (m : List ℕ). (step m v).image) h.image ∙ sym (run_append l h.events (v ∷ []));
    }
