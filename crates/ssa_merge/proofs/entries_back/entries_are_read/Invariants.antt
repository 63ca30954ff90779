use Rattle.std.proofs.Common.{take}
use Rattle.ssa_merge.proofs.EntriesBack.{AreRead}
use Rattle.ssa_merge.proofs.entries_back.entries_are_read.Given as goal

abbrev pub invariant-loop-entry : goal.invariant-loop-entry
invariant-loop-entry l = AreRead (take l.entry-index l.entries)
