use native.Mathlib.Omega.{arith}
use lib.{Dec.eqb}
use borrow.{Author.Tests.{eq-eqb, ne_eqb}}
use Rattle.rules.specs.{Forms.{listed}}
use Rattle.laws.proofs.Loops.{any_stops, any_goes_on, any_fails}
use Rattle.terms.proofs.Listed.{listed_length, listed_at}
use Rattle.certificates.proofs.effects.is_listed.Goals as goal

pub returns-then-id-listed_id : goal.returns-then-id-listed_id
returns-then-id-listed_id c =
    let e = c.args.e in
    let v = c.loop-i in
    let k = listed_length e c.requires in
    any_stops 0 (listed e) v.i (eqb c.args.id) _ v.invariant (omega arith) (listed_at e (omega arith) c.listed_id.ensures) (eq-eqb _ _ c.if-id-listed_id.true)

pub loop-i-preserved : goal.loop-i-preserved
loop-i-preserved c =
    let e = c.args.e in
    let v = c.loop-i in
    let k = listed_length e c.requires in
    any_goes_on 0 (listed e) v.i (eqb c.args.id) _ v.invariant (omega arith) (listed_at e (omega arith) c.listed_id.ensures)
    (ne_eqb _ _ c.if-id-listed_id.false)

pub returns : goal.returns
returns c =
    let k = listed_length c.args.e c.requires in
    any_fails 0 (listed c.args.e) c.loop-i.i (eqb c.args.id) _ c.loop-i.invariant (omega arith)
