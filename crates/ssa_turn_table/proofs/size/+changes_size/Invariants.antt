use Rattle.std.proofs.Common.{length}
use Rattle.ssa_turn_table.proofs.size.+changes_size.Given as goal

abbrev pub decreases-changes_size : goal.decreases-changes_size
decreases-changes_size l = length l.changed.now
