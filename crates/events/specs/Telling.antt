-- What is told of what a handler answered. Definitions only.
use Rattle.std.specs.Prelude.{Result, Ok, Err}
use Rattle.rules.specs.{declared.Answer.Answer, Step.refused}
use Rattle.handling.specs.{declared.Refusal.Refusal, RefusalCodes.refusal_code}

abbrev pub answer_of : Result Answer Refusal → Answer
answer_of (Ok x) = x
answer_of (Err why) = refused (refusal_code why)
