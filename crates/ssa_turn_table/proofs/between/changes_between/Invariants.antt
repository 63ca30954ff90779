use Rattle.std.proofs.Common.{◌≡◌, take}
use Rattle.ssa_model.specs.definitions.Record.{changes}
use Rattle.ssa_merge.specs.Managers.{table_view}
use Rattle.ssa_turn_table.specs.Changing.{AllHaveRoom}
use Rattle.ssa_turn_table.specs.Tables.{changes_view}
use Rattle.ssa_turn_table.proofs.between.changes_between.Given as goal

abbrev pub invariant-loop-entry : goal.invariant-loop-entry
invariant-loop-entry l = record {
  told : changes_view l.changed.items ≡ changes (table_view (take l.entry-index l.from)) (table_view l.to);
  room : AllHaveRoom (table_view l.from) l.changed.items;
}
