-- One event on an image, and a run of them: bytes in, answers and bytes out, for every input. Definitions only.
use Rattle.std.specs.Prelude.{ℕ}
use mathlib.Core.{Bool.{cond, ◌||◌}, List.{List, [], ◌∷◌}}
use Rattle.std.specs.Prelude.{eqb}
use Rattle.records.specs.{Layout.event_read, Phone.{Phone, decode, encode}, declared.Event.Event}
use Rattle.rules.specs.{declared.Answer.Answer, ImageRules.accepted, Faults.{fault, fault_offset}, Chains.links, Codes.{executable_named, code}}
use Rattle.rules.specs.Effects.{changed}

-- "Every code other than 0 gives domain 0 and links 0"
abbrev pub refused : ℕ → Answer
refused c = record { code = c; domain = 0; links = 0; rule = 0; offset = 0 }

-- 02, item 1: "code 1 as before; the answer gains two numbers, 0 for other codes"
abbrev pub refused_at : List ℕ → Answer
refused_at l = record { code = 1; domain = 0; links = 0; rule = (fault l).rule; offset = fault_offset l }

-- what is told of a code that is not 0
unfoldable pub refusal : List ℕ → ℕ → Answer
refusal l c = cond (eqb c 1) (refused_at l) (refused c)

-- what is told of code 0: a domain and a link count, or 0 and 0
abbrev pub answer_done : ℕ → ℕ → Answer
answer_done d n = record { code = 0; domain = d; links = n; rule = 0; offset = 0 }

-- "opening an image answers 0 or 1": and where it is wrong
unfoldable pub opened : List ℕ → Answer
opened l = cond (accepted l) (answer_done 0 0) (refused_at l)

-- "Domain and links are non-zero only for code 0 of verify and request: the executable's domain, and its link count if that domain is not 0": p is
-- the phone after the event
unfoldable pub done : Event → Phone → Answer
done e p =
    let x = executable_named p e.id in
    let told = answer_done x.domain (links p.trust x.signing x.domain) in
    cond (eqb e.kind 12 || eqb e.kind 15) told (answer_done 0 0)

-- what an event makes of an image
pub record Outcome : Type 0 where
  pub answer : Answer
  pub image : List ℕ

-- "Every code other than 0 leaves the image unchanged."
unfoldable pub step : List ℕ → List ℕ → Outcome
step l v =
    let c = code l v in
    let e = event_read v 0 in
    let p = changed e (decode l) in
    let after : Outcome = record { answer = done e p; image = encode p } in
    cond (eqb c 0) after (record { answer = refusal l c; image = l })

-- the image after a run of events, and the answers
unfoldable pub run : List ℕ → List (List ℕ) → List ℕ
run l [] = l
run l (v ∷ vs) = run (step l v).image vs

unfoldable pub answers : List ℕ → List (List ℕ) → List Answer
answers l [] = []
answers l (v ∷ vs) = let o = step l v in o.answer ∷ answers o.image vs
