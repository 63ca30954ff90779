use Rattle.std.proofs.Common.{◌≡◌, length, map, take, filter}
use Rattle.std.specs.Prelude.{unwrap_or}
use Rattle.ssa_model.specs.definitions.Table.{owned_by, reseated}
use Rattle.ssa_merge.specs.Managers.{key_view, table_view}
use Rattle.ssa_merge.specs.Tables.{owns}
use Rattle.ssa_merge.specs.TableChanges.{changed_entries}
use Rattle.ssa_merge.proofs.Acting.{IsTaken}
use Rattle.ssa_merge.proofs.seat.reseated_entries.Given as goal

abbrev pub invariant-loop-entry : goal.invariant-loop-entry
invariant-loop-entry l = record {
  made : changed_entries l.changes.items (table_view (take l.entry-index l.table))
      ≡ filter owns (map (reseated (key_view l.key) (unwrap_or l.initial.owned (owned_by (table_view l.table) (key_view l.key))) l.lost l.changed l.at) (table_view (take l.entry-index l.table)));
  each : length l.changes.items ≡ l.entry-index;
  loss : l.loss ≡ l.lost;
  owned : IsTaken (table_view (take l.entry-index l.table)) (key_view l.key) l.initial.owned l.owned;
}
