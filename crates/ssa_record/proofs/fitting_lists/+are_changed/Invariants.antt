use Rattle.std.proofs.Common.{length}
use Rattle.ssa_record.proofs.fitting_lists.+are_changed.Given as goal

abbrev pub decreases-are_changed : goal.decreases-are_changed
decreases-are_changed l = length l.entries.now
