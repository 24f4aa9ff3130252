use mathlib.Core.Path.{refl}
use Rattle.stream.specs.PrintedLines.{heading}
use borrow.Author.Rules.{rules}
use Rattle.stream.proofs.put_heading.Goals as goal

pub put_text-requires : goal.put_text-requires
unfolding heading
put_text-requires c = search rules

pub returns : goal.returns
unfolding heading
returns c = (c.put_text.ensures, refl)
