use Rattle.std.proofs.Common.{◌≡◌, ◌<◌, ◌≤◌, ◌^◌, length, drop}
use Rattle.why.specs.Number.{number_from, number}
use Rattle.why.proofs.parse.Given as goal

-- the digits so far make n, and what is left of the word goes on from there
abbrev pub invariant-loop-b : goal.invariant-loop-b
invariant-loop-b l = (length l.word ≤ 19) × (l.n < 10 ^ l.b-index) × (number_from l.n (drop l.b-index l.word) ≡ number l.word)
