use Rattle.std.proofs.Common.{◌≤◌, ◌<◌, ◌-◌, length}
use Rattle.ssa_turn_set.proofs.siblings.reach.Given as goal

abbrev pub invariant-loop-width : goal.invariant-loop-width
invariant-loop-width l = (l.width ≤ length l.children) × (0 < length l.children → 0 < l.width)

abbrev pub decreases-loop-width : goal.decreases-loop-width
decreases-loop-width l = length l.children - l.width
