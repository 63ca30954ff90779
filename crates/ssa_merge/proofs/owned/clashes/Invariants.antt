use Rattle.std.proofs.Common.{◌≡◌, ◌++◌, drop}
use Rattle.ssa_model.specs.definitions.Operations.{clashes}
use Rattle.ssa_merge.specs.Managers.{key_view, table_view, clashes_view}
use Rattle.ssa_merge.proofs.owned.clashes.Given as goal

-- what was found, and then what is left to find
abbrev pub invariant-loop-entry : goal.invariant-loop-entry
invariant-loop-entry l = clashes (key_view l.key) l.changed (table_view l.table) ≡ clashes_view l.found.items
    ++ clashes (key_view l.key) l.changed (table_view (drop l.entry-index l.table))
