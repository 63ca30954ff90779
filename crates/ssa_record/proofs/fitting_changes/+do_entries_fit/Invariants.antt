use Rattle.std.proofs.Common.{length}
use Rattle.ssa_record.proofs.fitting_changes.+do_entries_fit.Given as goal

abbrev pub decreases-do_entries_fit : goal.decreases-do_entries_fit
decreases-do_entries_fit l = length l.entries.now
