use Rattle.std.proofs.Common.{length}
use Rattle.ssa_merge.proofs.order.+are_in_step.Given as goal

abbrev pub decreases-are_in_step : goal.decreases-are_in_step
decreases-are_in_step l = length l.own.now
