use Rattle.records.proofs.Wrong.{too_short, wrong_version, many_certificates, many_cards, many_executables, counts_right}
use mathlib.Core.Path.{sym, ◌∙◌}
use native.Mathlib.Omega.{arith}
use Rattle.records.proofs.image.header_fault.Goals as goal

pub returns-then-size-lt-SIZE : goal.returns-then-size-lt-SIZE
returns-then-size-lt-SIZE c = too_short _ (omega arith)

pub returns-then-version-ne-VERSION : goal.returns-then-version-ne-VERSION
returns-then-version-ne-VERSION c = wrong_version _ (omega arith) (omega arith)

pub returns-then-certificate_slots-gt-MOST : goal.returns-then-certificate_slots-gt-MOST
returns-then-certificate_slots-gt-MOST c = many_certificates _ (omega arith) (omega arith) (omega arith)

pub returns-then-card_count-gt-MOST : goal.returns-then-card_count-gt-MOST
returns-then-card_count-gt-MOST c = many_cards _ (omega arith) (omega arith) (omega arith) (omega arith)

pub returns-then-executable_slots-gt-MOST : goal.returns-then-executable_slots-gt-MOST
returns-then-executable_slots-gt-MOST c = many_executables _ (omega arith) (omega arith) (omega arith) (omega arith) (omega arith)

pub returns : goal.returns
returns c = c.settings_fault.ensures ∙ sym (counts_right _ (omega arith) (omega arith) (omega arith) (omega arith) (omega arith))
