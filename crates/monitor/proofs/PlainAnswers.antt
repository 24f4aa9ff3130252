-- What an event on an accepted image is told has no rule and no byte. Assumes nothing.
use Prim.Native.Nat.{ℕ, ◌/◌, ◌%◌}
use mathlib.Core.{Bool.{Bool, true, false, cond, true≢false}, List.{List, [], ◌∷◌}, Path.{◌≡◌, refl, sym, ap, ap₂, ◌∙◌, subst}}
use Rattle.records.specs.{Phone.Phone, declared.Event.Event}
use Rattle.rules.specs.{declared.Answer.Answer, Codes.code, Step.{answer_done, done, step}, AcceptedImage.AcceptedImage}
use Rattle.keeping.proofs.Bytes.{step_cases, refusal_cases, code_one}
use Rattle.events.specs.Stepped.{Stepped}
use Rattle.monitor.specs.Told.{answer_bytes}

abbrev Plain : Answer → Type 0
Plain a = (a.rule ≡ 0) × (a.offset ≡ 0)

done_plain : (e : Event) (p : Phone) → Plain (done e p)
unfolding done
done_plain e p = each _ _ _
  where
    each : (b : Bool) (d n : ℕ) → Plain (cond b (answer_done d n) (answer_done 0 0))
    each true d n = (refl, refl)
    each false d n = (refl, refl)

step_plain : (l v : List ℕ) → AcceptedImage l → Plain (step l v).answer
step_plain l v a =
    step_cases (λ o. Plain o.answer) l v (λ z. done_plain _ _)
    (λ z. refusal_cases Plain l (code l v) (λ one. absurd (true≢false (sym a.accepted ∙ (code_one l v).0 one))) (λ n. (refl, refl)))

-- told without them it is told the same
pub plain_bytes : (l v : List ℕ) → AcceptedImage l → {r : Answer} {l' : List ℕ} → Stepped l v r l'
    → answer_bytes (record { code = r.code; domain = r.domain; links = r.links; rule = 0; offset = 0 }) ≡ answer_bytes r
plain_bytes l v a {r} s =
    let w : Plain r = subst Plain (sym s.answer) (step_plain l v a) in
    ap₂ (λ x y. r.code ∷ r.domain ∷ r.links ∷ x ∷ y / 256 ∷ y % 256 ∷ []) (sym w.0) (sym w.1)
