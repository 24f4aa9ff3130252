use mathlib.Core.{Bool.{◌&&◌, ◌||◌, not, and-true}, Logic.◌≢◌, Path.{◌≡◌, ap}}
use borrow.{Author.Tests.{eq-eqb, ne_eqb}}
use lib.Dec.{eqb}
use Rattle.records.specs.declared.Certificate.{Certificate}
use Rattle.rules.specs.{ImageRules.{certificate_ranges, root_fits, issued_fits, recovery_fits, certificate_fits}, Words.◌implies◌}
use Rattle.terms.proofs.certificate_fits.Goals as goal

of_recovery : (c : Certificate) → c.kind ≡ 2 → (certificate_ranges c && recovery_fits c) ≡ certificate_fits c
unfolding certificate_fits ◌implies◌
of_recovery c k =
    let r : eqb c.kind 0 ≡ eqb 2 0 = ap (λ n. eqb n 0) k in
    let i : eqb c.kind 1 ≡ eqb 2 1 = ap (λ n. eqb n 1) k in
    simp (r, i, eq-eqb c.kind 2 k, and-true)

of_others : (c : Certificate) → c.kind ≢ 2
    → (certificate_ranges c && (not (eqb c.kind 0) || root_fits c) && (not (eqb c.kind 1) || issued_fits c)) ≡ certificate_fits c
unfolding certificate_fits ◌implies◌
of_others c k = simp (ne_eqb c.kind 2 k, and-true)

pub returns-then-c-eq-RECOVERY : goal.returns-then-c-eq-RECOVERY
returns-then-c-eq-RECOVERY c =
    rw (c.recovery_fits.ensures, c.certificate_ranges.ensures) (of_recovery c.args.c c.if-c-eq-RECOVERY.true)

pub returns : goal.returns
returns c =
    rw (c.issued_fits.ensures, c.root_fits.ensures, c.certificate_ranges-2.ensures)
    (of_others c.args.c c.if-c-eq-RECOVERY.false)
