use mathlib.Core.{Bool.{not, ◌&&◌}, Path.{refl, sym, ap₂, ◌∙◌}}
use native.Mathlib.Omega.{arith}
use borrow.{Author.Tests.{eq-eqb, ne_eqb}}
use lib.Dec.{eqb}
use Rattle.handling.proofs.{CodeRows.{none, here, next, gives}, PlanLaws.{plan_refused, plan_on}}
use Rattle.executables.proofs.decisions.table_says.Goals as goal

pub returns-then-byte-eq-NEVER : goal.returns-then-byte-eq-NEVER
returns-then-byte-eq-NEVER c = plan_refused _ _ (omega arith) (gives (here (eq-eqb _ 0 (sym c.table_byte-byte.ensures ∙ c.if-byte-eq-NEVER.true))))

pub returns-then-byte-has_bit : goal.returns-then-byte-has_bit
returns-then-byte-has_bit c =
    plan_refused _ _ (omega arith) (gives (next (ne_eqb _ 0 (λ z. c.if-byte-eq-NEVER.false (c.table_byte-byte.ensures ∙ z)))
    (here (sym (ap₂ (λ n b. eqb n 1 && not b) c.table_byte-byte.ensures c.has_bit.ensures) ∙ c.if-byte-has_bit.true))))

pub returns : goal.returns
returns c =
    plan_on _ _ refl (gives (next (ne_eqb _ 0 (λ z. c.if-byte-eq-NEVER.false (c.table_byte-byte.ensures ∙ z)))
    (next (sym (ap₂ (λ n b. eqb n 1 && not b) c.table_byte-byte.ensures c.has_bit.ensures) ∙ c.if-byte-has_bit.false) none)))
