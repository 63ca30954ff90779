use Rattle.std.proofs.Common.{length}
use Rattle.ssa_path.proofs.top_path.+order_last.Given as goal

abbrev pub decreases-order_last : goal.decreases-order_last
decreases-order_last l = length l.other.now
