-- What is told of an image: the byte of what is wrong, which is that of a record by its number, and the answer. Assumes nothing.
use Prim.Native.Nat.{ℕ, ◌+◌, ◌*◌, ◌≤◌, ◌<◌}
use mathlib.Core.{Bool.{Bool, true, false, cond, not}, List.List, Path.{◌≡◌, refl, sym, ap, ◌∙◌, subst}}
use native.Mathlib.Omega.{arith}
use mir.Val.{bool_byte}
use lib.{Dec.eqb, ListN.length}
use Rattle.std.specs.Prelude.{Result, Ok, Err}
use Rattle.records.specs.{Sizes.{header_size, card_size, executable_size, row_size}, Phone.{decode, cards_at, executables_at, table_at}}
use Rattle.records.specs.Frame.{framed}
use Rattle.records.proofs.{Said.{length_certificates, length_cards, length_executables}, FrameFacts.fields}
use Rattle.rules.specs.{declared.Answer.Answer, declared.Site.Site, declared.Fault.Fault, ImageRules.{accepted, «open»}}
use Rattle.rules.specs.{Faults.{offset_of, no_fault, fault, fault_offset}, Step.{answer_done, refused_at, opened}, FaultNames.Within}
use Rattle.opening.specs.Opened.{opening}
use Rattle.opening.proofs.ByParts.{keeps, breaks}
use Rattle.laws.proofs.Where.{accepted_no_fault, fault_within, offset_small}

-- accepted or not: an accepted image has no fault
pub opened_told : (l : List ℕ) → opened l ≡ record { code = «open» l; domain = 0; links = 0; rule = (fault l).rule; offset = fault_offset l }
unfolding opened «open»
opened_told l = go (accepted l) refl
  where
    go : (b : Bool) → accepted l ≡ b
        → cond b (answer_done 0 0) (refused_at l) ≡ record { code = cond b 0 1; domain = 0; links = 0; rule = (fault l).rule; offset = fault_offset l }
    go true e = rw (accepted_no_fault l e) refl
    go false e = refl

-- q is what opening l gave, and what it is told with is the fault of l
module _ (l : List ℕ) {q : Result Unit Fault} (e : q ≡ opening l) where
  pub no_fault_told : {x : Unit {0}} → q ≡ Ok x → no_fault ≡ fault l
  unfolding opening
  no_fault_told o = sym (accepted_no_fault l (keeps (fault l) e o))

  pub fault_told : {f : Fault} → q ≡ Err f → f ≡ fault l
  unfolding opening
  fault_told o = ap held (sym o ∙ (breaks e o).1)
    where
      held : Result Unit Fault → Fault
      held (Ok x) = no_fault
      held (Err f) = f

-- a framed image has a header
headed : (l : List ℕ) → framed l ≡ true → header_size ≤ length l
headed l k = let w = fields l k in omega arith

-- n is the byte of what is wrong: two bytes hold it
pub small : (l : List ℕ) {n : ℕ} → n ≡ fault_offset l → n < 65536
small l e = let h = offset_small l in omega arith

-- f is the fault of l
module _ (l : List ℕ) {f : Fault} (e : f ≡ fault l) where
  -- and s where it is
  module _ {s : Site} (at : f.site ≡ s) where
    named : (fault l).site ≡ s
    named = sym (ap (λ x. x.site) e) ∙ at

    within : Within l s
    within = subst (Within l) named (fault_within l)

    stands : offset_of (decode l) s ≡ fault_offset l
    stands = ap (offset_of (decode l)) (sym named)

  -- ---- the byte of record i; a is where the records start, as the header has it

  module _ {i : ℕ} where
    pub card_headed : f.site ≡ Site.Card i → header_size ≤ length l
    card_headed at = headed l (within at).0

    pub card_stands : f.site ≡ Site.Card i → {a : ℕ} → a ≡ cards_at l → a + card_size * i ≡ fault_offset l
    card_stands at q = let s = stands at in let w = fields l (within at).0 in omega (arith, length_certificates l)

    pub executable_headed : f.site ≡ Site.Executable i → header_size ≤ length l
    executable_headed at = headed l (within at).0

    pub executable_stands : f.site ≡ Site.Executable i → {a : ℕ} → a ≡ executables_at l → a + executable_size * i ≡ fault_offset l
    executable_stands at q = let s = stands at in let w = fields l (within at).0 in omega (arith, length_certificates l, length_cards l)

    pub row_headed : f.site ≡ Site.Row i → header_size ≤ length l
    row_headed at = headed l (within at).0

    pub row_stands : f.site ≡ Site.Row i → {a : ℕ} → a ≡ table_at l → a + row_size * i ≡ fault_offset l
    row_stands at q =
        let s = stands at in let w = fields l (within at).0 in omega (arith, length_certificates l, length_cards l, length_executables l)

  -- ---- the answer; o is that byte, and c the code

  pub tells : {o : ℕ} → o ≡ fault_offset l → {c : ℕ} → c ≡ bool_byte (not (eqb f.rule 0))
      → ◌≡◌ {A = Answer} (record { code = c; domain = 0; links = 0; rule = f.rule; offset = o }) (opened l)
  unfolding «open» accepted fault
  tells q p = cc (opened_told l, turn (accepted l))
    where
      turn : (b : Bool) → bool_byte (not b) ≡ cond b 0 1
      turn true = refl
      turn false = refl
