use Rattle.std.proofs.Common.{length}
use Rattle.ssa_record.proofs.fitting_lists.+are_newcomers.Given as goal

abbrev pub decreases-are_newcomers : goal.decreases-are_newcomers
decreases-are_newcomers l = length l.here.now
