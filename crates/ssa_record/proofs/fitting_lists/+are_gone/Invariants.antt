use Rattle.std.proofs.Common.{length}
use Rattle.ssa_record.proofs.fitting_lists.+are_gone.Given as goal

abbrev pub decreases-are_gone : goal.decreases-are_gone
decreases-are_gone l = length l.entries.now
