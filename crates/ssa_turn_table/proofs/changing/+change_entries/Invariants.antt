use Rattle.std.proofs.Common.{length}
use Rattle.ssa_turn_table.proofs.changing.+change_entries.Given as goal

abbrev pub decreases-change_entries : goal.decreases-change_entries
decreases-change_entries l = length l.entries.now
