-- What a message makes of a root, by a write of `enabled`: x is what was read, and c what stands in the slot. Assumes nothing.
use Prim.Native.Nat.{ℕ}
use mathlib.Core.{Bool.{true, false, cond, not, ◌&&◌}, Path.{◌≡◌, sym, ap, ◌∙◌}}
use lib.Dec.{eqb}
use Rattle.records.specs.{Phone.enabling, declared.Certificate.Certificate, declared.Event.Event}
use Rattle.rules.specs.{Words.at, ImageRules.third_party_root, Effects.enabled_by}
use Rattle.chain.specs.Breaks.{disables}

-- a third party root is written, and any other record is not
module _ (e : Event) {x c : Certificate} (q : x ≡ c) where
  pub enabled_written : {m : ℕ} → m ≡ enabled_by e x → third_party_root x ≡ true → enabling m c ≡ at third_party_root (λ c. enabling (enabled_by e c) c) c
  enabled_written h t =
      ap (λ m. enabling m c) (h ∙ ap (enabled_by e) q) ∙ ap (λ b. cond b (enabling (enabled_by e c) c) c) (sym t ∙ ap (λ x. third_party_root x) q)

  pub enabled_skipped : third_party_root x ≡ false → c ≡ at third_party_root (λ c. enabling (enabled_by e c) c) c
  enabled_skipped t = ap (λ b. cond b (enabling (enabled_by e c) c) c) (sym t ∙ ap (λ x. third_party_root x) q)

  pub disables_told : {m : ℕ} → m ≡ enabled_by e x → third_party_root x ≡ true → (eqb x.enabled 1 && not (eqb m 1)) ≡ disables e c
  unfolding disables
  disables_told h t =
      ap (λ m. eqb x.enabled 1 && not (eqb m 1)) h ∙ ap (λ b. b && eqb x.enabled 1 && not (eqb (enabled_by e x) 1)) (sym t) ∙ ap (disables e) q

  pub disables_none : third_party_root x ≡ false → disables e c ≡ false
  unfolding disables
  disables_none t = ap (disables e) (sym q) ∙ ap (λ b. b && eqb x.enabled 1 && not (eqb (enabled_by e x) 1)) t
