use Rattle.std.proofs.Common.{◌≡◌, drop}
use Rattle.ssa_schema.specs.Tags.{short_number}
use Rattle.ssa_schema.proofs.fit.tag.short_number.Given as goal

-- with the bytes that are left, the number is the whole text's
abbrev pub invariant-loop-byte : goal.invariant-loop-byte
invariant-loop-byte l = short_number l.number (drop l.byte-index l.bytes) ≡ short_number 0 l.bytes
