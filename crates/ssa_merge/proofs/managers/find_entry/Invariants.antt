use Rattle.std.proofs.Common.{◌≡◌, drop}
use Rattle.ssa_merge.specs.Managers.{key_view, table_view}
use Rattle.ssa_model.specs.definitions.Table.{entry_of}
use Rattle.ssa_merge.proofs.managers.find_entry.Given as goal

-- the entry is among those that are left
abbrev pub invariant-loop-entry : goal.invariant-loop-entry
invariant-loop-entry l = entry_of (table_view l.entries) (key_view l.key) ≡ entry_of (table_view (drop l.entry-index l.entries)) (key_view l.key)
