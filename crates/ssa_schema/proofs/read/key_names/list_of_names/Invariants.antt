use Rattle.std.proofs.Common.{◌≡◌, ◌++◌}
use Rattle.ssa_schema.specs.Kinds.{names_view}
use Rattle.ssa_schema.proofs.read.key_names.list_of_names.Given as goal

-- the names so far, and those that are left
abbrev pub invariant-loop-name : goal.invariant-loop-name
invariant-loop-name l = names_view l.fn.names.keys ≡ names_view l.found.items ++ names_view l.name-iterator
