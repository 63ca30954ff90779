use Rattle.std.proofs.Common.{◌≡◌, ◌++◌, map}
use Rattle.std.specs.Vec.Iter.{into_iter_items}
use Rattle.ssa_merge.specs.Managers.{table_view}
use Rattle.ssa_told.specs.Told.{told_change}
use Rattle.ssa_turn_table.specs.Changing.{AllHaveRoom}
use Rattle.ssa_turn_table.specs.Tables.{changes_view}
use Rattle.ssa_record.proofs.told_table.changes_of_told.Given as goal

abbrev pub invariant-loop-change : goal.invariant-loop-change
invariant-loop-change l = record {
  told : changes_view l.changed.items ++ map told_change (into_iter_items l.change-iterator) ≡ map told_change l.fn.told.items;
  room : AllHaveRoom (table_view l.entries) l.changed.items;
}
