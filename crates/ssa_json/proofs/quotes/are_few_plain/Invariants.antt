use Rattle.json.specs.Written.{PlainBetween}
use Rattle.ssa_json.proofs.quotes.are_few_plain.Given as goal

-- the bytes so far are plain
abbrev pub invariant-loop-byte : goal.invariant-loop-byte
invariant-loop-byte l = PlainBetween l.text 0 l.byte-index
