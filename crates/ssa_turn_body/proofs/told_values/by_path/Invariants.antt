use Rattle.std.proofs.Common.{length}
use Rattle.ssa_turn_body.proofs.ValuesInOrder.{AreSorted}
use Rattle.ssa_turn_body.proofs.told_values.by_path.Given as goal

-- what is taken off the end is in the map
abbrev pub invariant-loop-path : goal.invariant-loop-path
invariant-loop-path l = AreSorted l.fn.told.items l.rest.items l.sorted.entries

abbrev pub decreases-loop-path : goal.decreases-loop-path
decreases-loop-path l = length l.rest.items
