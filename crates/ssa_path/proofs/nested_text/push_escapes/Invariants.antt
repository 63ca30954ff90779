use Rattle.std.proofs.Common.{◌≡◌, ◌++◌, drop}
use Rattle.ssa_model.specs.definitions.Json.{escaped}
use Rattle.ssa_path.proofs.nested_text.push_escapes.Given as goal

-- with the bytes that are left, the text is whole
abbrev pub invariant-loop-byte : goal.invariant-loop-byte
invariant-loop-byte l = l.text.items ++ escaped (drop l.byte-index l.bytes) ≡ l.fn.text.items ++ escaped l.bytes
