use Rattle.opening.proofs.Offsets.{card_headed, card_stands, executable_headed, executable_stands, row_headed}
use Rattle.opening.proofs.Offsets.{row_stands}
use Rattle.opening.proofs.span_of.Goals as goal

pub cards_at-requires : goal.cards_at-requires
cards_at-requires c = search card_headed

pub executables_at-requires : goal.executables_at-requires
executables_at-requires c = search executable_headed

pub table_at-requires : goal.table_at-requires
table_at-requires c = search row_headed

pub returns-in-Card : goal.returns-in-Card
returns-in-Card c = search card_stands

pub returns-in-Executable : goal.returns-in-Executable
returns-in-Executable c = search executable_stands

pub returns-in-Row : goal.returns-in-Row
returns-in-Row c = search row_stands
