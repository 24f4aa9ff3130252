-- From the rows of an event to its plan: its form, the rows on the record that it names, and the rest. Assumes nothing.
use Prim.Native.Nat.{ℕ}
use mathlib.Core.{Bool.{Bool, true, false, not}, List.{List, ◌∷◌, ◌++◌}, Logic.◌≢◌, Path.{◌≡◌, refl, ap, ◌∙◌}}
use native.Mathlib.Omega.{arith}
use lib.Dec.{T}
use Rattle.rules.specs.Words.{Check, ◌⇒◌, first}
use Rattle.laws.proofs.Tests.{coded}
use Rattle.std.specs.Prelude.{Result, Ok, Err}
use Rattle.handling.specs.{declared.Refusal.Refusal, RefusalCodes.by_code, Plans.plan}
use Rattle.handling.proofs.CodeRows.{gives, here, next, rest, says}
use Rattle.handling.proofs.PlanLaws.{plan_refused, plan_on, reason_not_0, refused_code, on_code, on_slot, stands, decides}

-- the form of an event is f, and x is what its test answers: it is refused, or the rows l decide
module _ {A : Type 0} (code : ℕ) (slot : A) (f : Bool) (l : List Check) (told : first ((not f ⇒ 2) ∷ l) ≡ code) {x : Bool} (answers : x ≡ f) where
  pub unformed : not x ≡ true → Err 2 ≡ plan code slot
  unformed h = plan_refused code slot (omega arith) (gives (here {l = l} (says answers h)) ∙ told)

  pub formed : not x ≡ false → {r : Result A ℕ} → r ≡ plan (first l) slot → r ≡ plan code slot
  formed h q = q ∙ ap (λ m. plan m slot) (gives (next (says answers h) (rest {l = l} refl)) ∙ told)

-- the rows l have refused it, or they let the rows m decide
module _ {A : Type 0} (l m : List Check) (slot : A) {r : Result A Refusal} (q : by_code r ≡ plan (first l) slot) where
  pub refused_first : {why : Refusal} → r ≡ Err why → by_code (Err why) ≡ plan (first (l ++ m)) slot
  refused_first {why} e =
      let n = reason_not_0 why in
      plan_refused (first (l ++ m)) slot (omega arith) (stands l m (refused_code (first l) slot q e) n)

  pub refused_next : T (coded l) → {x : A} → r ≡ Ok x → {c : ℕ} → c ≢ 0 → c ≡ first m → Err c ≡ plan (first (l ++ m)) slot
  refused_next k e {c} n t = plan_refused (first (l ++ m)) slot (omega arith) (t ∙ decides l m k refl (on_code (first l) slot q e))

  pub on_next : T (coded l) → {x : A} → r ≡ Ok x → 0 ≡ first m → Ok x ≡ plan (first (l ++ m)) slot
  on_next k e t = plan_on (first (l ++ m)) slot (on_slot (first l) slot q e) (t ∙ decides l m k refl (on_code (first l) slot q e))
