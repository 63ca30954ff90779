use Rattle.std.proofs.Common.{◌≡◌, take}
use Rattle.ssa_model.specs.definitions.Record.{gone_from}
use Rattle.ssa_merge.specs.Managers.{table_view}
use Rattle.ssa_merge.specs.TableChanges.{changed_entries}
use Rattle.ssa_turn_table.specs.Tables.{keys_view}
use Rattle.ssa_turn_table.proofs.table_delta.gone_by.Given as goal

abbrev pub invariant-loop-place : goal.invariant-loop-place
invariant-loop-place l = keys_view l.gone.items ≡ gone_from (table_view (take l.place l.entries)) (changed_entries l.told (table_view l.entries))
