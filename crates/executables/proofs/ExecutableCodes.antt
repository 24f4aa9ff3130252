-- The rows of the table of codes that matter for events about executables. Assumes nothing.
use Prim.Native.Nat.{ℕ, ◌<◌}
use mathlib.Core.{Bool.{Bool, true, false, not, and-true, or-false}, List.{List, [], ◌∷◌, ◌++◌}, Logic.{◌⊎◌, inl, inr}, Path.{◌≡◌, ap, ◌∙◌}}
use Rattle.records.specs.{Phone.Phone, declared.Executable.Executable, declared.Event.Event}
use Rattle.rules.specs.{Words.{any, Check, ◌⇒◌, first}, Actors.may_act, Forms.{with_kind, id_form, executable_form, action_form}}
use Rattle.rules.specs.Codes.{is_executable, executable_named, executable_known, code_of}
use Rattle.handling.specs.Plans.{executable_rows}
use Rattle.handling.proofs.{CodeRows.{Gives, gives}, TheTable.{the_table, small_actor}}
use Rattle.executables.specs.{TableRows.table_rows, Acting.permission_kind}

abbrev pub install_executable_rows : Phone → Event → List Check
install_executable_rows p e =
    (not (executable_form p e) ⇒ 2)
    ∷ (not (may_act 10 0 e.actor) ⇒ 4)
    ∷ (executable_known p e.id ⇒ 9)
    ∷ (not (any (is_executable 0) p.executables) ⇒ 14)
    ∷ []

-- x is the executable that is named
abbrev pub request_rows : Phone → Event → Executable → List Check
request_rows p e x = (not (action_form p e) ⇒ 2) ∷ (executable_rows 15 p e ++ table_rows p x e.second)

-- ---- what they give is the code

module _ (p : Phone) (e : Event) (a : e.actor < 5) where
  pub install_executable_told : {r : ℕ} → Gives r (install_executable_rows p e) → r ≡ code_of p (with_kind 10 e)
  unfolding the_table
  install_executable_told g = gives g ∙ simp (small_actor e a, and-true, or-false)

  pub id_told : (k : ℕ) → (k ≡ 11) ⊎ (k ≡ 12) → first ((not (id_form p e) ⇒ 2) ∷ executable_rows k p e) ≡ code_of p (with_kind k e)
  unfolding the_table
  id_told k (inl q) = rw q (simp (small_actor e a, and-true, or-false))
  id_told k (inr q) = rw q (simp (small_actor e a, and-true, or-false))

  pub permit_told : (given : Bool) → let k = permission_kind given in first ((not (action_form p e) ⇒ 2) ∷ executable_rows k p e) ≡ code_of p (with_kind k e)
  unfolding the_table
  permit_told true = simp (small_actor e a, and-true, or-false)
  permit_told false = simp (small_actor e a, and-true, or-false)

  named_told : first (request_rows p e (executable_named p e.id)) ≡ code_of p (with_kind 15 e)
  unfolding the_table
  named_told = simp (small_actor e a, and-true, or-false)

  pub request_told : {x : Executable} → x ≡ executable_named p e.id → first (request_rows p e x) ≡ code_of p (with_kind 15 e)
  request_told q = ap (λ x. first (request_rows p e x)) q ∙ named_told
