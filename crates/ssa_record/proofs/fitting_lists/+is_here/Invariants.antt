use Rattle.std.proofs.Common.{length}
use Rattle.ssa_record.proofs.fitting_lists.+is_here.Given as goal

abbrev pub decreases-is_here : goal.decreases-is_here
decreases-is_here l = length l.here.now
