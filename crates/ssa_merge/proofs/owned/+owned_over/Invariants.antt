use Rattle.std.proofs.Common.{length}
use Rattle.ssa_merge.proofs.owned.+owned_over.Given as goal

abbrev pub decreases-owned_over : goal.decreases-owned_over
decreases-owned_over l = length l.table.now
