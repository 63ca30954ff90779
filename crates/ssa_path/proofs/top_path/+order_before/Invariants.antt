use Rattle.std.proofs.Common.{length}
use Rattle.ssa_path.proofs.top_path.+order_before.Given as goal

abbrev pub decreases-order_before : goal.decreases-order_before
decreases-order_before l = length l.place.now
