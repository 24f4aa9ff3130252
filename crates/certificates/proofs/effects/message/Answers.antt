use mathlib.Core.{Path.{refl, sym, ap, ◌∙◌}}
use native.Mathlib.Omega.{arith}
use borrow.{Author.Rules.rules}
use Rattle.records.specs.Phone.{encode, no_certificate, with_mode}
use Rattle.rules.specs.{Effects.{message}}
use Rattle.chain.specs.Breaks.{disables}
use Rattle.laws.proofs.Tables.{certificates}
use Rattle.laws.proofs.SlotSweeps.{sweep_starts, sweep_goes_on, sweep_here, sweep_skips, sweep_said, gathers, gathers_none, gathered}
use Rattle.certificates.proofs.Enables.{enabled_written, enabled_skipped, disables_told, disables_none}
use Rattle.certificates.proofs.effects.message.Goals as goal

pub loop-i-init : goal.loop-i-init
loop-i-init c = (sweep_starts certificates _ c.requires.framed c.certificate_slots-slots.ensures.0, refl)

pub loop-i-preserved-then-not-is_third_party_root : goal.loop-i-preserved-then-not-is_third_party_root
loop-i-preserved-then-not-is_third_party_root c =
    let e = c.args.e in
    let v = c.loop-i in
    let x = c.certificate-c.ensures in
    let n = sym c.is_third_party_root.ensures ∙ c.if-not-is_third_party_root.true in (
      sweep_skips certificates _ v.invariant.0 (omega arith) (enabled_skipped e x n),
      gathers_none (disables e) no_certificate _ v.i v.broken v.invariant.1 (omega arith) (disables_none e (x ∙ sweep_here certificates _ v.invariant.0) n),
    )

pub loop-i-preserved : goal.loop-i-preserved
loop-i-preserved c =
    let e = c.args.e in
    let v = c.loop-i in
    let x = c.certificate-c.ensures in
    let m = c.enabled_by-enabled.ensures in
    let y = sym c.is_third_party_root.ensures ∙ c.if-not-is_third_party_root.false in (
      sweep_goes_on certificates _ v.invariant.0 (omega arith) (search rules) (enabled_written e x m y) c.set_enabled.ensures,
      gathers (disables e) no_certificate _ v.i v.broken v.invariant.1 (omega arith) (disables_told e (x ∙ sweep_here certificates _ v.invariant.0) m y),
    )

pub returns-clause-image : goal.returns-clause-image
unfolding message
returns-clause-image c =
    c.set_mode.ensures ∙ ap (λ p. encode (with_mode c.args.e.third p)) (sweep_said certificates _ c.loop-i.invariant.0 (omega arith))

pub returns-clause-broken : goal.returns-clause-broken
returns-clause-broken c =
    gathered (disables c.args.e) no_certificate _ c.loop-i.i c.loop-i.broken c.loop-i.invariant.1 (omega arith)
