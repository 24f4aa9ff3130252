-- The rows of the table of codes that matter for events about certificates. Assumes nothing.
use Prim.Native.Nat.{ℕ, ◌<◌}
use mathlib.Core.{Bool.{Bool, true, false, cond, not, ◌&&◌, ◌||◌, and-true, or-false}, List.{List, [], ◌∷◌, ◌++◌}, Path.{◌≡◌, refl, subst, ◌∙◌}}
use lib.Dec.{eqb}
use Rattle.records.specs.{Phone.Phone, declared.Certificate.Certificate, declared.Event.Event}
use Rattle.rules.specs.{Words.{any, Check, ◌⇒◌, first}, Chains.present}
use Rattle.rules.specs.{ImageRules.{certificate_fits, known_place, operator_of, operator_root, third_party_root}, Actors.may_act}
use Rattle.rules.specs.Forms.{new_certificate, listed, with_kind, owned_form, message_form, replace_form}
use Rattle.rules.specs.Codes.{has_id, in_another, certificate_named, certificate_known, code_of}
use Rattle.handling.specs.Plans.{certificate_rows}
use Rattle.handling.proofs.{CodeRows.{Gives, gives}, TheTable.{the_table, small_actor}}
use Rattle.certificates.specs.MarkingRows.{marking_rows, replacing_rows}

-- c is the certificate to install
abbrev pub install_rows : Phone → Event → Certificate → List Check
install_rows p e c =
    (not (certificate_fits c) ⇒ 2)
    ∷ (not (may_act 5 c.domain e.actor) ⇒ 4)
    ∷ (not (known_place p.cards c.place) ⇒ 6)
    ∷ (not (present p.trust.seen c) ⇒ 8)
    ∷ (certificate_known p c.id ⇒ 9)
    ∷ (any (in_another c.key c.domain) p.trust.certificates ⇒ 10)
    ∷ (operator_root c && not (eqb c.place 0) && not (eqb c.owner (operator_of p.cards c.place)) ⇒ 11)
    ∷ (not (any (has_id 0) p.trust.certificates) ⇒ 14)
    ∷ []

-- on the certificate that is named; l are the rows after these
abbrev pub on_rows : ℕ → Phone → Event → List Check → List Check
on_rows k p e l = (not (owned_form p e) ⇒ 2) ∷ (certificate_rows k false p e ++ l)

-- c is the certificate to mark invalid
abbrev pub root_row : Certificate → List Check
root_row c = (not (eqb c.kind 0) ⇒ 12) ∷ []

-- on the certificate that is named by "id", with the record r that is named by "second"
abbrev pub replace_rows : Phone → Event → Certificate → List Check
replace_rows p e r =
    (not (replace_form p e) ⇒ 2)
    ∷ (not (certificate_known p e.second) ⇒ 3)
    ∷ (certificate_rows 16 (eqb r.domain 3) p e ++ replacing_rows p e (certificate_named p e.id) r)

abbrev pub message_rows : Phone → Event → List Check
message_rows p e =
    (not (message_form p e) ⇒ 2)
    ∷ (any (λ n. not (certificate_known p n)) (listed e) ⇒ 3)
    ∷ (not (may_act 9 0 e.actor) ⇒ 4)
    ∷ (any (λ n. not (third_party_root (certificate_named p n))) (listed e) ⇒ 12)
    ∷ []

-- ---- what they give is the code

-- two rows with one number are one
either : (a b : Bool) (n m : ℕ) → cond b n (cond a n m) ≡ cond (a || b) n m
either true true n m = refl
either true false n m = refl
either false true n m = refl
either false false n m = refl

module _ (p : Phone) (e : Event) (a : e.actor < 5) where
  pub install_told : {r : ℕ} (c : Certificate) → c ≡ new_certificate p.mode e → Gives r (install_rows p e c) → r ≡ code_of p (with_kind 5 e)
  unfolding the_table
  install_told {r} c q g = gives (subst (λ x. Gives r (install_rows p e x)) q g) ∙ simp (small_actor e a, and-true, or-false)

  pub delete_told : first (on_rows 6 p e []) ≡ code_of p (with_kind 6 e)
  unfolding the_table
  delete_told = simp (small_actor e a, or-false)

  pub mark_valid_told : first (on_rows 7 p e (marking_rows p (certificate_named p e.id))) ≡ code_of p (with_kind 7 e)
  unfolding the_table
  mark_valid_told = simp (small_actor e a, or-false)

  pub mark_invalid_told : first (on_rows 8 p e (root_row (certificate_named p e.id))) ≡ code_of p (with_kind 8 e)
  unfolding the_table
  mark_invalid_told = simp (small_actor e a, or-false)

  pub replace_told : first (replace_rows p e (certificate_named p e.second)) ≡ code_of p (with_kind 16 e)
  unfolding the_table
  replace_told = simp (small_actor e a, and-true, or-false, either)

  pub message_told : {r : ℕ} → Gives r (message_rows p e) → r ≡ code_of p (with_kind 9 e)
  unfolding the_table
  message_told g = gives g ∙ simp (small_actor e a, and-true, or-false)
