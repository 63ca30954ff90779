use Rattle.std.proofs.Common.{◌≡◌, ◌∷◌, ◌++◌, drop}
use Rattle.ssa_model.specs.definitions.Json.{escaped}
use Rattle.ssa_json.proofs.write.push_byte_by_byte.Given as goal

-- with the bytes that are left, the string is whole
abbrev pub invariant-loop-byte : goal.invariant-loop-byte
invariant-loop-byte l = l.text.items ++ escaped (drop l.byte-index l.byte-items) ≡ l.fn.text.items ++ 34 ∷ escaped l.string
