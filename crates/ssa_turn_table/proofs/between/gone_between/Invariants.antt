use Rattle.std.proofs.Common.{◌≡◌, take}
use Rattle.ssa_model.specs.definitions.Record.{gone_from}
use Rattle.ssa_merge.specs.Managers.{table_view}
use Rattle.ssa_turn_table.specs.Tables.{keys_view}
use Rattle.ssa_turn_table.proofs.between.gone_between.Given as goal

abbrev pub invariant-loop-entry : goal.invariant-loop-entry
invariant-loop-entry l = keys_view l.gone.items ≡ gone_from (table_view (take l.entry-index l.from)) (table_view l.to)
