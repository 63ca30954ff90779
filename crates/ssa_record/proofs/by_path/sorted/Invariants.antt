use Rattle.std.proofs.Common.{length}
use Rattle.ssa_record.proofs.ByPaths.{AreSorted}
use Rattle.ssa_record.proofs.by_path.sorted.Given as goal

-- what is taken off the end is in the map
abbrev pub invariant-loop-path : goal.invariant-loop-path
invariant-loop-path g l = AreSorted l.fn.told.items l.rest.items l.sorted.entries

abbrev pub decreases-loop-path : goal.decreases-loop-path
decreases-loop-path g l = length l.rest.items
