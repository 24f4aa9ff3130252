use Rattle.records.proofs.Wrong.{no_action, many_actions, wrong_mode, wrong_blank, settings_right}
use mathlib.Core.Path.{sym, ◌∙◌}
use native.Mathlib.Omega.{arith}
use Rattle.records.proofs.image.settings_fault.Goals as goal

pub returns-then-actions-eq0 : goal.returns-then-actions-eq0
returns-then-actions-eq0 c = no_action _ (omega arith)

pub returns-then-actions-gt-MOST : goal.returns-then-actions-gt-MOST
returns-then-actions-gt-MOST c = many_actions _ (omega arith)

pub returns-then-mode-gt-ENABLE_LISTED : goal.returns-then-mode-gt-ENABLE_LISTED
returns-then-mode-gt-ENABLE_LISTED c = wrong_mode _ (omega arith) (omega arith) (omega arith)

pub returns-then-blank-ne0 : goal.returns-then-blank-ne0
returns-then-blank-ne0 c = wrong_blank _ (omega arith) (omega arith) (omega arith) (omega arith)

pub returns : goal.returns
returns c = c.parts_fault.ensures ∙ sym (settings_right _ (omega arith) (omega arith) (omega arith) (omega arith))
