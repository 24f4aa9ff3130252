use Rattle.records.proofs.Wrong.{wrong_certificates_at, wrong_cards_at, wrong_executables_at, wrong_table_at, wrong_total}
use native.Mathlib.Omega.{arith}
use Rattle.records.proofs.image.parts_fault.Goals as goal

pub returns-then-certificates_at-ne-CERTIFICATES : goal.returns-then-certificates_at-ne-CERTIFICATES
returns-then-certificates_at-ne-CERTIFICATES c = wrong_certificates_at _ (omega arith)

pub returns-then-cards_at-cards : goal.returns-then-cards_at-cards
returns-then-cards_at-cards c = wrong_cards_at _ (omega arith) (omega arith)

pub returns-then-executables_at-executables : goal.returns-then-executables_at-executables
returns-then-executables_at-executables c = wrong_executables_at _ (omega arith) (omega arith) (omega arith)

pub returns-then-table_at-table : goal.returns-then-table_at-table
returns-then-table_at-table c = wrong_table_at _ (omega arith) (omega arith) (omega arith) (omega arith)

pub returns : goal.returns
returns c = wrong_total _ (omega arith) (omega arith) (omega arith) (omega arith)
