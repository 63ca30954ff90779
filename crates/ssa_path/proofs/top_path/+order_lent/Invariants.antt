use Rattle.std.proofs.Common.{length}
use Rattle.ssa_path.proofs.top_path.+order_lent.Given as goal

abbrev pub decreases-order_lent : goal.decreases-order_lent
decreases-order_lent l = length l.place.now
