use Rattle.std.proofs.Common.{length}
use Rattle.ssa_merge.proofs.entries_back.+changed_entries_are_read.Given as goal

abbrev pub decreases-changed_entries_are_read : goal.decreases-changed_entries_are_read
decreases-changed_entries_are_read l = length l.changes.now
