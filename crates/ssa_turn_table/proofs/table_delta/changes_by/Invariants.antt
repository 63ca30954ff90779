use Rattle.std.proofs.Common.{◌≡◌, take}
use Rattle.ssa_model.specs.definitions.Record.{changes}
use Rattle.ssa_merge.specs.Managers.{table_view}
use Rattle.ssa_merge.specs.TableChanges.{changed_entries}
use Rattle.ssa_turn_table.specs.Changing.{AllHaveRoom}
use Rattle.ssa_turn_table.specs.Tables.{changes_view}
use Rattle.ssa_turn_table.proofs.table_delta.changes_by.Given as goal

abbrev pub invariant-loop-place : goal.invariant-loop-place
invariant-loop-place l = record {
  told : changes_view l.changed.items ≡ changes (table_view (take l.place l.entries)) (changed_entries l.told (table_view l.entries));
  room : AllHaveRoom (table_view l.entries) l.changed.items;
}
