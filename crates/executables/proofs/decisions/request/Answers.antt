use mathlib.Core.{Bool.not, Path.{◌≡◌, refl, sym, ap}}
use native.Mathlib.Omega.{arith}
use Rattle.std.specs.Prelude.{Ok, Err}
use Rattle.records.specs.Phone.{decode}
use Rattle.rules.specs.{Words.first, Forms.with_kind, Codes.code_of}
use Rattle.terms.proofs.FormTests.{action_below}
use Rattle.handling.proofs.{CodeRows.says, PlanLaws.{passed_on, reason_not_0, refused_code, on_code, on_slot}, Named.executable_here}
use Rattle.handling.proofs.Decided.{unformed, formed, refused_first, refused_next, on_next}
use Rattle.executables.proofs.{ExecutableCodes.{request_rows, request_told}, ActsOnExecutable.known_within}
use Rattle.executables.proofs.decisions.request.Goals as goal
use Rattle.executables.proofs.decisions.request.Goals.{After-executable}

-- with the executable that was read
told : (c : After-executable) → let p = decode c.args.s.now in first (request_rows p c.args.e c.executable.result) ≡ code_of p (with_kind 15 c.args.e)
told c =
    request_told _ _ (omega arith)
    (executable_here (decode c.args.s.now) _ (on_slot _ _ {r = Ok c.in_ok-slot.slot} c.in_ok-slot.ensures refl) c.executable.ensures)

pub returns-then-not-action_form : goal.returns-then-not-action_form
returns-then-not-action_form c = unformed _ _ _ _ (request_told _ _ (omega arith) refl) (c.action_form.ensures _ c.action_count.ensures.0)
    (ap not c.if-not-action_form.true)

pub returns-in_err-slot : goal.returns-in_err-slot
returns-in_err-slot c =
    rw (passed_on c.from_residual.ensures.1)
    (formed _ _ _ _ (request_told _ _ (omega arith) refl) (c.action_form.ensures _ c.action_count.ensures.0) (ap not c.if-not-action_form.false)
    (refused_first _ _ _ {r = Err _} c.in_err-slot.ensures refl))

pub executable-requires : goal.executable-requires
executable-requires c = record { framed = c.requires.accepted_image.framed; i_in_bounds = known_within 15 _ c.args.e c.in_ok-slot.ensures }

pub table_says-requires : goal.table_says-requires
table_says-requires c =
    let domain = c.requires.accepted_image.executable_domains c.in_ok-slot.slot in
    record {
      framed = c.requires.accepted_image.framed;
      action_in_bounds = action_below (decode c.args.s.now) c.args.e
          (says (c.action_form.ensures _ c.action_count.ensures.0) (ap not c.if-not-action_form.false));
      domain_bound = omega (arith, ap (λ x. x.domain) c.executable.ensures, domain);
    }

pub returns-in_err-table_says : goal.returns-in_err-table_says
returns-in_err-table_says c =
    rw (passed_on c.from_residual-in_err-table_says.ensures.1)
    (formed _ _ _ _ (told (goal.at.returns-in_err-table_says c).After-executable)
    (c.action_form.ensures _ c.action_count.ensures.0) (ap not c.if-not-action_form.false)
    (refused_next _ _ _ {r = Ok _} c.in_ok-slot.ensures tt refl (reason_not_0 _) (refused_code _ _ {r = Err _} c.in_err-table_says.ensures refl)))

pub returns : goal.returns
returns c =
    formed _ _ _ _ (told (goal.at.returns c).After-executable)
    (c.action_form.ensures _ c.action_count.ensures.0) (ap not c.if-not-action_form.false)
    (on_next _ _ _ {r = Ok _} c.in_ok-slot.ensures tt refl (sym (on_code _ _ {r = Ok _} c.in_ok-table_says.ensures refl)))
