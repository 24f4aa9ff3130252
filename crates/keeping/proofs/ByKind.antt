-- An event taken by its kind: by any of the sixteen, and by those that withdraw. Assumes nothing.
use Prim.Native.Nat.{ℕ, zero, suc}
use mathlib.Core.{Bool.{Bool, true, false, ◌&&◌, ◌||◌}, Path.{◌≡◌, subst, sym}}
use lib.{Dec.{T, eqb, eqb→eq}, ListN.get_or}
use Rattle.records.specs.{Phone.Phone, declared.Event.Event}
use Rattle.rules.specs.Forms.{forms, no_form}
use Rattle.rules.specs.Effects.{tick, card_in, card_out, card_rule, install_certificate, delete_certificate, mark_valid, mark_invalid, message}
use Rattle.rules.specs.Effects.{install_executable, delete_executable, verify, permit, request, replace, effect}
use Rattle.rules.specs.Demands.{withdrawing}
use Rattle.laws.proofs.Tests.{and_l, and_r}
pub use Rattle.rules.specs.Forms.{with_kind}

-- the effects under one name: with a line `unfolding the_effects` they compute at a known kind, but for power up, which looks at the card
unfoldable pub the_effects : Unit {0}
unfolding effect tick card_in card_out card_rule install_certificate delete_certificate mark_valid mark_invalid message
    install_executable delete_executable verify permit request replace
the_effects = tt

-- ---- of every kind

-- what holds of each of the sixteen kinds
pub record Each (P : ℕ → Type 0) : Type 0 where
  pub clock : P 1
  pub card_in : P 2
  pub card_out : P 3
  pub power_up : P 4
  pub install_certificate : P 5
  pub delete_certificate : P 6
  pub mark_valid : P 7
  pub mark_invalid : P 8
  pub message : P 9
  pub install_executable : P 10
  pub delete_executable : P 11
  pub verify : P 12
  pub give : P 13
  pub withdraw : P 14
  pub request : P 15
  pub replace : P 16

-- holds of every kind that has a form
pub by_kind : (P : ℕ → Type 0) → Each P → (k : ℕ) (p : Phone) (e : Event) → T (get_or forms k no_form p e) → P k
unfolding no_form
by_kind P h zero p e t = absurd t
by_kind P h (suc zero) p e t = h.clock
by_kind P h (suc (suc zero)) p e t = h.card_in
by_kind P h (suc (suc (suc zero))) p e t = h.card_out
by_kind P h (suc (suc (suc (suc zero)))) p e t = h.power_up
by_kind P h (suc (suc (suc (suc (suc zero))))) p e t = h.install_certificate
by_kind P h (suc (suc (suc (suc (suc (suc zero)))))) p e t = h.delete_certificate
by_kind P h (suc (suc (suc (suc (suc (suc (suc zero))))))) p e t = h.mark_valid
by_kind P h (suc (suc (suc (suc (suc (suc (suc (suc zero)))))))) p e t = h.mark_invalid
by_kind P h (suc (suc (suc (suc (suc (suc (suc (suc (suc zero))))))))) p e t = h.message
by_kind P h (suc (suc (suc (suc (suc (suc (suc (suc (suc (suc zero)))))))))) p e t = h.install_executable
by_kind P h (suc (suc (suc (suc (suc (suc (suc (suc (suc (suc (suc zero))))))))))) p e t = h.delete_executable
by_kind P h (suc (suc (suc (suc (suc (suc (suc (suc (suc (suc (suc (suc zero)))))))))))) p e t = h.verify
by_kind P h (suc (suc (suc (suc (suc (suc (suc (suc (suc (suc (suc (suc (suc zero))))))))))))) p e t = h.give
by_kind P h (suc (suc (suc (suc (suc (suc (suc (suc (suc (suc (suc (suc (suc (suc zero)))))))))))))) p e t = h.withdraw
by_kind P h (suc (suc (suc (suc (suc (suc (suc (suc (suc (suc (suc (suc (suc (suc (suc zero))))))))))))))) p e t = h.request
by_kind P h (suc (suc (suc (suc (suc (suc (suc (suc (suc (suc (suc (suc (suc (suc (suc (suc zero)))))))))))))))) p e t = h.replace
by_kind P h (suc (suc (suc (suc (suc (suc (suc (suc (suc (suc (suc (suc (suc (suc (suc (suc (suc k))))))))))))))))) p e t = absurd t

-- ---- of those that withdraw

-- "Withdrawing: 1, 3, 6, 8, 11, 14 and 9 with mode 0."
pub record EachWithdrawing (mode : ℕ) (P : ℕ → Type 0) : Type 0 where
  pub clock : P 1
  pub card_out : P 3
  pub delete_certificate : P 6
  pub mark_invalid : P 8
  pub message : mode ≡ 0 → P 9
  pub delete_executable : P 11
  pub withdraw : P 14

or_elim : {X : Type 0} (a b : Bool) → (T a → X) → (T b → X) → T (a || b) → X
or_elim true b f g h = f tt
or_elim false b f g h = g h

-- holds of every kind that withdraws
pub by_withdrawing : (P : ℕ → Type 0) (p : Phone) (e : Event) → EachWithdrawing e.third P → T (withdrawing p e) → P e.kind
unfolding withdrawing
by_withdrawing P p e h =
    or_elim (is 1 || is 3 || is 6 || is 8 || is 11 || is 14) (is 9 && eqb e.third 0)
    (or_elim (is 1 || is 3 || is 6 || is 8 || is 11) (is 14)
    (or_elim (is 1 || is 3 || is 6 || is 8) (is 11)
    (or_elim (is 1 || is 3 || is 6) (is 8)
    (or_elim (is 1 || is 3) (is 6) (or_elim (is 1) (is 3) (known 1 h.clock) (known 3 h.card_out)) (known 6 h.delete_certificate))
    (known 8 h.mark_invalid))
    (known 11 h.delete_executable))
    (known 14 h.withdraw))
    (λ t. known 9 (h.message (eqb→eq e.third 0 (and_r (is 9) (eqb e.third 0) t))) (and_l (is 9) (eqb e.third 0) t))
  where
    is : ℕ → Bool
    is k = eqb e.kind k

    known : (k : ℕ) → P k → T (is k) → P e.kind
    known k x t = subst P (sym (eqb→eq e.kind k t)) x
