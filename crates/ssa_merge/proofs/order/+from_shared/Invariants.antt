use Rattle.std.proofs.Common.{length}
use Rattle.ssa_merge.proofs.order.+from_shared.Given as goal

abbrev pub decreases-from_shared : goal.decreases-from_shared
decreases-from_shared l = length l.entries.now
