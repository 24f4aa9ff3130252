use Rattle.std.proofs.Common.{arith}
use Rattle.std.proofs.lemmas.Grind.{common_steps}
use Rattle.octets.proofs.ByteLaws.{put_none}
use Rattle.why.specs.SentenceText.{reason_sentence}
use Rattle.why.proofs.put_reason.Goals as goal

pub returns-in_default : goal.returns-in_default
unfolding reason_sentence
returns-in_default c = let same = put_none c.args.out.now c.args.at in grind (arith, common_steps)
