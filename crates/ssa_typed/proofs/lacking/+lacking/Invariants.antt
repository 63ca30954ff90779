use Rattle.std.proofs.Common.{◌+◌, ◌*◌, drop, length}
use Rattle.ssa_typed.specs.Rows.{rows}
use Rattle.ssa_typed.proofs.LackingPaths.{IsLackingSoFar}
use Rattle.ssa_typed.proofs.lacking.+lacking.Given as goal

abbrev pub decreases-lacking_paths : goal.decreases-lacking_paths
decreases-lacking_paths l = 2 * length (rows l.node.now) + 1

abbrev pub decreases-lacking_below : goal.decreases-lacking_below
decreases-lacking_below l = 2 * length (rows l.node.now)

abbrev pub invariant-lacking_below-loop-part : goal.invariant-lacking_below-loop-part
invariant-lacking_below-loop-part l = IsLackingSoFar l.node l.set (drop l.part-index l.set) l.lacking.items
