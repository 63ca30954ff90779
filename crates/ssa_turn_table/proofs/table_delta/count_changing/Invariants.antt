use Rattle.std.proofs.Common.{◌≤◌}
use Rattle.ssa_turn_table.proofs.table_delta.count_changing.Given as goal

abbrev pub invariant-loop-change : goal.invariant-loop-change
invariant-loop-change l = l.count ≤ l.change-index
