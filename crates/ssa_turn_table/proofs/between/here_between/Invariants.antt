use Rattle.std.proofs.Common.{◌≡◌, take}
use Rattle.ssa_model.specs.definitions.Record.{placed}
use Rattle.ssa_merge.specs.Managers.{table_view}
use Rattle.ssa_turn_table.specs.Going.{AllKeysAgree}
use Rattle.ssa_turn_table.specs.Tables.{heres_view}
use Rattle.ssa_turn_table.proofs.Taking.{is_off}
use Rattle.ssa_turn_table.proofs.between.here_between.Given as goal

abbrev pub invariant-loop-place : goal.invariant-loop-place
invariant-loop-place l = record {
  told : heres_view l.here.items ≡ placed (is_off (table_view l.from)) 0 (table_view (take l.place l.to));
  keys : AllKeysAgree l.here.items;
}
