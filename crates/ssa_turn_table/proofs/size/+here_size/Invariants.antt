use Rattle.std.proofs.Common.{length}
use Rattle.ssa_turn_table.proofs.size.+here_size.Given as goal

abbrev pub decreases-here_size : goal.decreases-here_size
decreases-here_size l = length l.here.now
