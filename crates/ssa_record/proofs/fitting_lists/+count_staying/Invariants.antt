use Rattle.std.proofs.Common.{length}
use Rattle.ssa_record.proofs.fitting_lists.+count_staying.Given as goal

abbrev pub decreases-count_staying : goal.decreases-count_staying
decreases-count_staying l = length l.entries.now
